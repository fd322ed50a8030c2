-- The lines of the report on sampled headers, and those of the consumers. Each ends with a line feed.
use Rattle.std.specs.Prelude.{ℕ, ◌++◌, List, [], ◌∷◌, codes, decimal, flat_map, if◌then◌else◌, nat_eq}
use Rattle.std.specs.List.{concat}
use Rattle.sample_taps.specs.Classes.{headers_counted}
use Rattle.sample_taps.specs.declared.class_totals.ClassTotals.{ClassTotals}

-- the line of the classes
unfoldable pub class_line : ClassTotals → List ℕ
class_line c = concat (
    codes "headers unscanned " ∷ decimal c.unscanned ∷
    codes " short " ∷ decimal c.short ∷
    codes " length " ∷ decimal c.length ∷
    codes " undefined " ∷ decimal c.undefined ∷
    codes " arp " ∷ decimal c.arp ∷
    codes " ipv4 " ∷ decimal c.ipv4 ∷
    codes " ipv6 " ∷ decimal c.ipv6 ∷
    codes " other " ∷ decimal c.other ∷
    codes " badip " ∷ decimal c.bad_ip ∷
    codes " tagged " ∷ decimal c.tagged ∷
    codes " tcp " ∷ decimal c.tcp ∷
    codes " udp " ∷ decimal c.udp ∷
    codes "\n" ∷ [])

-- the same, and nothing where no header was counted
abbrev pub class_text : ClassTotals → List ℕ
class_text c = if nat_eq (headers_counted c) 0 then [] else class_line c

-- the line of each of these consumers, by what each prints
abbrev pub tap_texts : {X : Type 0} → (X → List ℕ) → List X → List ℕ
tap_texts text held = flat_map (λ x. text x ++ codes "\n") held

-- what consumers show: the lines of those that are held, and how many were dropped as done
pub record ShownTaps : Type 0 where
  pub lines : List ℕ
  pub ended : ℕ

abbrev pub shown_taps : {X : Type 0} → (X → List ℕ) → List X → ℕ → ShownTaps
shown_taps text held ended = record { lines = tap_texts text held; ended = ended }

-- what none show
abbrev pub no_taps : ShownTaps
no_taps = record { lines = []; ended = 0 }
