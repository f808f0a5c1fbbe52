use Rattle.std.proofs.Common.{◌≡◌, ◌<◌, ℕ, zero, suc, Bool, List, [], ◌∷◌, zip, length, Some, get_or, false, arith, refl}
use Rattle.std.specs.Prelude.{option_map, slice_get}
use Rattle.fed_accounts.specs.declared.account.Account.{Account}
use Rattle.fed_accounts.specs.Connection.{Connected}
use Rattle.fed_accounts.proofs.offer.Offer.connects.Goals as goal

-- at a place of two lists of one length
connected_at : (client : List ℕ) (accounts : List Account) (kept : List Bool) (place : ℕ) (a : Account) (k : Bool)
    → place < length accounts → length kept ≡ length accounts
    → option_map (λ entry. Connected entry.0 client entry.1) (slice_get (zip accounts kept) place)
    ≡ Some (Connected (get_or accounts place a) client (get_or kept place k))
connected_at client [] kept place a k inside each = absurd (omega arith)
connected_at client (x ∷ accounts) [] place a k inside each = absurd (omega (arith, each))
connected_at client (x ∷ accounts) (y ∷ kept) zero a k inside each = refl
connected_at client (x ∷ accounts) (y ∷ kept) (suc place) a k inside each =
    connected_at client accounts kept place a k (omega (arith, inside)) (omega (arith, each))

pub returns : goal.returns
returns c =
    let h = c.connected.ensures in
    let is = c.index-list-place.is in
    let found = connected_at c.args.self.now.client c.args.self.now.accounts c.args.self.now.kept c.args.place c.index-list-place.result
    false c.requires.inside c.requires.whole in
    grind (arith, found, h, is)
