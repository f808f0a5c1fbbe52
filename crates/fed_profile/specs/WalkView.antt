-- For private clauses: what a view shows, from each kind on.
use Rattle.std.specs.Prelude.{List, ◌++◌, map}
use Rattle.fed_session.specs.declared.view.View.{View}
use Rattle.fed_profile.specs.Item.{Item, KeptItem, FlagItem, CookieItem, PageItem}

abbrev pub from_cookies : View → List Item
from_cookies view = map CookieItem view.cookies ++ map (λ page. PageItem page.0 page.1) view.pages

abbrev pub from_flags : View → List Item
from_flags view = map FlagItem view.silent ++ from_cookies view

abbrev pub from_kept : View → List Item
from_kept view = map KeptItem view.kept ++ from_flags view
