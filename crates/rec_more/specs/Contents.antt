-- What contracts see of a record: the value of its fields, and its tail; and where its slices stand in the body.
use Rattle.std.specs.Prelude.{ℕ, ◌+◌, ◌≤◌, List, length}
use Rattle.wire_spec.specs.Padding.{padding_of}
use Rattle.wire_spec.specs.Shapes.{Tree, none, ◌&◌}
use Rattle.wire_spec.specs.Heads.{address_tree}
use Rattle.wire_spec.specs.Spelling.{spell, spell_all}
use Rattle.data_format.specs.Addresses.{address_of}
use Rattle.data_format.specs.Ranges.{IsRange}
use Rattle.data_format.specs.Records.{Content}
use Rattle.as_paths.specs.WordLists.{word_trees}
use Rattle.rec_more.specs.declared.user.UserRec.{UserRec}
use Rattle.rec_more.specs.declared.url.UrlRec.{UrlRec}
use Rattle.rec_more.specs.declared.mpls.MplsRec.{MplsRec}
use Rattle.rec_more.specs.declared.nat.NatRec.{NatRec}
use Rattle.rec_more.specs.declared.processor.ProcessorCounters.{ProcessorCounters}

-- ---- users

abbrev pub user_content : UserRec → Content
user_content r = (
  Tree.structure (
      Tree.word r.src_charset & Tree.opaque r.src_user.now & Tree.word r.dst_charset & Tree.opaque r.dst_user.now &
      none),
  r.tail.now,
)

abbrev pub AreShortNames : UserRec → Type 0
AreShortNames r = (length r.src_user.now ≤ 65535) × (length r.dst_user.now ≤ 65535)

-- the source user stands behind two words, the destination user behind its padding and two more
abbrev pub HasNames : List ℕ → UserRec → Type 0
HasNames body r = IsRange body 8 r.src_user.now
    × IsRange body (16 + (length r.src_user.now + padding_of (length r.src_user.now))) r.dst_user.now

-- ---- URLs

abbrev pub url_content : UrlRec → Content
url_content r = (
  Tree.structure (Tree.word r.direction & Tree.opaque r.url.now & Tree.opaque r.host.now & none),
  r.tail.now,
)

abbrev pub AreShortTexts : UrlRec → Type 0
AreShortTexts r = (length r.url.now ≤ 65535) × (length r.host.now ≤ 65535)

-- the URL stands behind two words, the host behind its padding and one more
abbrev pub HasTexts : List ℕ → UrlRec → Type 0
HasTexts body r = IsRange body 8 r.url.now
    × IsRange body (12 + (length r.url.now + padding_of (length r.url.now))) r.host.now

-- ---- label stacks

abbrev pub mpls_content : MplsRec → Content
mpls_content r = (
  Tree.structure (
      address_tree (address_of r.nexthop) & Tree.array (word_trees r.in_stack) & Tree.array (word_trees r.out_stack) &
      none),
  r.tail.now,
)

abbrev pub in_bytes : MplsRec → List ℕ
in_bytes r = spell_all (word_trees r.in_stack)

abbrev pub out_bytes : MplsRec → List ℕ
out_bytes r = spell_all (word_trees r.out_stack)

abbrev pub AreShortStacks : MplsRec → Type 0
AreShortStacks r = (length (in_bytes r) ≤ 65535) × (length (out_bytes r) ≤ 65535)

-- the one stack stands behind the next hop and its count
abbrev pub place_of_in : MplsRec → ℕ
place_of_in r = length (spell (address_tree (address_of r.nexthop))) + 4

-- and the other one behind it and its own count
abbrev pub HasStacks : List ℕ → MplsRec → Type 0
HasStacks body r = IsRange body (place_of_in r) (in_bytes r)
    × IsRange body (place_of_in r + length (in_bytes r) + 4) (out_bytes r)

-- ---- translated addresses

abbrev pub nat_content : NatRec → Content
nat_content r = (
  Tree.structure (address_tree (address_of r.src) & address_tree (address_of r.dst) & none),
  r.tail.now,
)

-- ---- processors

abbrev pub processor_content : ProcessorCounters → Content
processor_content r = (
  Tree.structure (
      Tree.word r.cpu_5s & Tree.word r.cpu_1m & Tree.word r.cpu_5m & Tree.hyper r.total_memory &
      Tree.hyper r.free_memory & none),
  r.tail.now,
)
