use Rattle.std.proofs.Common.{◌≡◌, ◌<◌, ◌+◌, ◌^◌, length, map}
use Rattle.fed_reply.specs.Fields.{values}
use Rattle.fed_trace.specs.Row.{cookies_from, set_cookie_name}
use Rattle.fed_session.specs.Cookies.{with_all_stored}
use Rattle.fed_session.proofs.load.store_fields.Given as goal

-- What is stored, and then what is left, is the whole; and there is room for what is left.
abbrev pub invariant-loop-value : goal.invariant-loop-value
invariant-loop-value l = record {
  written : record l.sight {
    cookies =
        with_all_stored l.sight.time l.sight.cookies (cookies_from l.sight.cookies.rules l.fn.url l.sight.time (map (λ v. v.bytes) l.value-iterator));
  }
      ≡ record l.fn.sight {
        cookies =
            with_all_stored l.fn.sight.time l.fn.sight.cookies (cookies_from l.fn.sight.cookies.rules l.fn.url l.fn.sight.time
            (values set_cookie_name l.fn.head.fields));
      };
  room : l.sight.cookies.entered + length (map (λ v. v.bytes) l.value-iterator) < 2 ^ 64;
}
