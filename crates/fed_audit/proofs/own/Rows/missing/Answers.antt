use Rattle.std.proofs.Common.{Some, sym, ap, ◌∙◌}
use Rattle.fed_audit.specs.declared.aspect.Aspect.TheVariants as aspects
use Rattle.fed_audit.specs.Compare.{found_of}
use Rattle.fed_audit.specs.Differ.{bare}
use Rattle.fed_audit.proofs.rows.Ways.{none_missing, one_missing}
use Rattle.fed_audit.proofs.own.Rows.missing.Goals as goal

pub returns-in_default : goal.returns-in_default
returns-in_default c = sym (none_missing c.args.self.now.line c.args.self.now.left c.in_default.ensures)

pub returns : goal.returns
returns c =
    ap (λ about. Some (found_of c.args.self.now.line about (bare aspects.Missing))) c.about_of.ensures
    ∙ sym (one_missing c.args.self.now.line c.args.self.now.left c.in-Some.out.now c.in-Some.ensures)
