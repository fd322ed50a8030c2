-- The lines of users, URLs, label stacks and translated addresses, up to the tail, from the members of each record (sFlow
-- Version 5, section 5).
use Rattle.std.specs.Prelude.{ℕ, List, [], ◌∷◌, ◌++◌, codes, decimal}
use Rattle.std.specs.List.{concat}
use Rattle.wire_spec.specs.Shapes.{Trees}
use Rattle.wire_spec.specs.Texts.{address_text}
use Rattle.text_lines.specs.Bytes.{hex_or_dash}
use Rattle.data_format.specs.Values.{values_of, member, number_in, bytes_in, address_in}
use Rattle.show_lines.specs.Joined.{list_text}

-- source character set and user, destination character set and user
unfoldable pub user_front : Trees → List ℕ
user_front m = concat (
    codes "  user src " ∷ decimal (number_in 0 m) ∷ codes " " ∷ hex_or_dash (bytes_in 1 m) ∷
    codes " dst " ∷ decimal (number_in 2 m) ∷ codes " " ∷ hex_or_dash (bytes_in 3 m) ∷ [])

-- direction, URL, host
unfoldable pub url_front : Trees → List ℕ
url_front m = concat (
    codes "  url direction " ∷ decimal (number_in 0 m) ∷
    codes " url " ∷ hex_or_dash (bytes_in 1 m) ∷
    codes " host " ∷ hex_or_dash (bytes_in 2 m) ∷ [])

-- next hop
unfoldable pub hop_text : Trees → List ℕ
hop_text m = concat (codes "  mpls nexthop " ∷ address_text (address_in (member 0 m)) ∷ codes " in " ∷ [])

-- the same, and then the stack that came in and the one that went out
unfoldable pub mpls_front : Trees → List ℕ
mpls_front m =
    hop_text m ++ (list_text (values_of (member 1 m)) ++ (codes " out " ++ list_text (values_of (member 2 m))))

-- source, destination
unfoldable pub nat_front : Trees → List ℕ
nat_front m = concat (
    codes "  nat src " ∷ address_text (address_in (member 0 m)) ∷
    codes " dst " ∷ address_text (address_in (member 1 m)) ∷ [])
