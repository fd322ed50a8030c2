-- The items that a link over memory has left.
use Rattle.std.proofs.Common.{◌≡◌, ℕ, ◌+◌, ◌<◌, List, [], ◌∷◌, length, suc, map, drop, get_or, ap, sym, ◌∙◌, subst, drop-cons, drop-drop}
use Rattle.std.specs.Prelude.{Option, None, Some}
use Rattle.std.specs.List.{drop-map}
use Rattle.wire_spec.specs.Captures.{Entry}
use Rattle.datagram_links.specs.declared.link_item.LinkItem.{LinkItem}
use Rattle.datagram_links.specs.declared.received.Received.{Received}
use Rattle.datagram_links.specs.Links.{GivesNext}
use Rattle.datagram_links.specs.Memory.{item_view}

-- what comes behind the first item doesn't matter
gives_front : (o : Option Entry) (rest : List (Option Entry)) (r : Received) (room : List ℕ)
    → GivesNext (o ∷ []) r room → GivesNext (o ∷ rest) r room
gives_front None rest r room g = g
gives_front (Some e) rest r room g = g

-- the item at a place is the first of those that are left from there on
pub gives_at : (items : List LinkItem) (at : ℕ) (x : LinkItem) (left : List (Option Entry)) (r : Received) (room : List ℕ)
    → at < length items → x ≡ get_or items at x → drop at (map item_view items) ≡ left
    → GivesNext (item_view x ∷ []) r room → GivesNext left r room
gives_at items at x left r room within is view g =
    let split = drop-cons items at x within in
    let front : drop at items ≡ x ∷ drop (suc at) items = split ∙ ap (λ y. y ∷ drop (suc at) items) (sym is) in
    let whole : drop at (map item_view items) ≡ item_view x ∷ map item_view (drop (suc at) items) =
    drop-map item_view at items ∙ ap (map item_view) front in
    subst (λ l. GivesNext l r room) (sym whole ∙ view) (gives_front (item_view x) _ r room g)

-- those from the next place on are without the first
pub left_after : (items : List (Option Entry)) (at : ℕ) (left : List (Option Entry)) → drop at items ≡ left
    → drop (at + 1) items ≡ drop 1 left
left_after items at left view = sym (drop-drop 1 at items) ∙ ap (drop 1) view
