-- Keys in order of first arrival, of which the first are listed. The keys that arrived are given with the LATEST
-- FIRST; those listed stand with the first to arrive first.
use Rattle.std.specs.Prelude.{ℕ, ◌==◌, ◌&&◌, not, Bool, true, false, cond, List, [], ◌∷◌, ◌++◌, take}
use Rattle.std.specs.List.{list_any, count_by}
use Rattle.std.specs.Str.{bytes_eq}
use Rattle.wire_spec.specs.Heads.{AgentAddress, unknown, ipv4, ipv6}
use Rattle.count_spec.specs.Windows.{AreDistinctBy}
use Rattle.books_spec.specs.Items.{SourceId, Stream, Source}

abbrev pub same_flag : Bool → Bool → Bool
same_flag true b = b
same_flag false b = not b

abbrev pub same_address : AgentAddress → AgentAddress → Bool
same_address unknown unknown = true
same_address unknown (ipv4 ys) = false
same_address unknown (ipv6 ys) = false
same_address (ipv4 xs) unknown = false
same_address (ipv4 xs) (ipv4 ys) = bytes_eq xs ys
same_address (ipv4 xs) (ipv6 ys) = false
same_address (ipv6 xs) unknown = false
same_address (ipv6 xs) (ipv4 ys) = false
same_address (ipv6 xs) (ipv6 ys) = bytes_eq xs ys

abbrev pub same_stream : Stream → Stream → Bool
same_stream s t = same_address s.agent t.agent && (s.sub_agent == t.sub_agent)

abbrev pub same_id : SourceId → SourceId → Bool
same_id s t = same_flag s.flow t.flow && (s.class == t.class) && (s.index == t.index)

abbrev pub same_source : Source → Source → Bool
same_source s t = same_stream s.stream t.stream && same_id s.id t.id

module _ {K : Type 0} (same : K → K → Bool) where
  -- whether the key is one of these
  abbrev pub among : List K → K → Bool
  among keys key = list_any (same key) keys

  -- the keys with one more, which goes last where it is new
  abbrev pub with_key : List K → K → List K
  with_key keys key = cond (among keys key) keys (keys ++ key ∷ [])

  -- each key once, in order of first arrival
  abbrev pub first_arrivals : List K → List K
  first_arrivals [] = []
  first_arrivals (key ∷ before) = with_key (first_arrivals before) key

  -- the first so many of them
  abbrev pub listed : ℕ → List K → List K
  listed limit arrived = take limit (first_arrivals arrived)

  -- how many arrivals are of keys that aren't listed
  abbrev pub unlisted : ℕ → List K → ℕ
  unlisted limit arrived = count_by (λ key. not (among (listed limit arrived) key)) arrived

  -- no key is there twice
  abbrev pub AreDistinct : List K → Type 0
  AreDistinct keys = AreDistinctBy among keys
