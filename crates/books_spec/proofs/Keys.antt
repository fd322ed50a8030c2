-- The tests of streams and sources find equal ones.
use Rattle.std.proofs.Common.{◌≡◌, Bool, true, false, ◌&&◌, refl, sym, ap, true≢false}
use Rattle.std.specs.Prelude.{◌==◌}
use Rattle.std.proofs.lemmas.Bool.{eqb-true, eq-eqb}
use Rattle.std.proofs.lemmas.Slice.Eq.{bytes_eq-Decides}
use Rattle.wire_spec.specs.Heads.{AgentAddress, unknown, ipv4, ipv6}
use Rattle.books_spec.specs.Items.{SourceId, Stream, Source}
use Rattle.books_spec.specs.Listing.{same_flag, same_address, same_stream, same_id, same_source}
use Rattle.books_spec.proofs.Listings.{IsSame}

pub and-split : (a b : Bool) → (a && b) ≡ true → (a ≡ true) × (b ≡ true)
and-split true b h = (refl, h)
and-split false b h = absurd (true≢false (sym h))

pub and-both : (a b : Bool) → a ≡ true → b ≡ true → (a && b) ≡ true
and-both a b p q = rw p q

flag-to : (a b : Bool) → same_flag a b ≡ true → a ≡ b
flag-to true b h = sym h
flag-to false true h = absurd (true≢false (sym h))
flag-to false false h = refl

flag-self : (a : Bool) → same_flag a a ≡ true
flag-self true = refl
flag-self false = refl

address-to : (a b : AgentAddress) → same_address a b ≡ true → a ≡ b
address-to unknown unknown h = refl
address-to unknown (ipv4 ys) h = absurd (true≢false (sym h))
address-to unknown (ipv6 ys) h = absurd (true≢false (sym h))
address-to (ipv4 xs) unknown h = absurd (true≢false (sym h))
address-to (ipv4 xs) (ipv4 ys) h = ap ipv4 ((bytes_eq-Decides xs ys).0 h)
address-to (ipv4 xs) (ipv6 ys) h = absurd (true≢false (sym h))
address-to (ipv6 xs) unknown h = absurd (true≢false (sym h))
address-to (ipv6 xs) (ipv4 ys) h = absurd (true≢false (sym h))
address-to (ipv6 xs) (ipv6 ys) h = ap ipv6 ((bytes_eq-Decides xs ys).0 h)

address-self : (a : AgentAddress) → same_address a a ≡ true
address-self unknown = refl
address-self (ipv4 xs) = (bytes_eq-Decides xs xs).1 refl
address-self (ipv6 xs) = (bytes_eq-Decides xs xs).1 refl

stream-to : (s t : Stream) → same_stream s t ≡ true → s ≡ t
stream-to s t h =
    let parts = and-split (same_address s.agent t.agent) (s.sub_agent == t.sub_agent) h in
    let agents = address-to s.agent t.agent parts.0 in
    let subs = eqb-true s.sub_agent t.sub_agent parts.1 in
    λ j. record { agent = agents j; sub_agent = subs j }

stream-self : (s : Stream) → same_stream s s ≡ true
stream-self s = and-both (same_address s.agent s.agent) (s.sub_agent == s.sub_agent)
    (address-self s.agent) (eq-eqb s.sub_agent s.sub_agent refl)

pub stream-same : IsSame same_stream
stream-same = record { to = stream-to; self = stream-self }

id-to : (s t : SourceId) → same_id s t ≡ true → s ≡ t
id-to s t h =
    let parts = and-split (same_flag s.flow t.flow && (s.class == t.class)) (s.index == t.index) h in
    let first = and-split (same_flag s.flow t.flow) (s.class == t.class) parts.0 in
    let flows = flag-to s.flow t.flow first.0 in
    let classes = eqb-true s.class t.class first.1 in
    let indexes = eqb-true s.index t.index parts.1 in
    λ j. record { flow = flows j; class = classes j; index = indexes j }

id-self : (s : SourceId) → same_id s s ≡ true
id-self s = and-both (same_flag s.flow s.flow && (s.class == s.class)) (s.index == s.index)
    (and-both (same_flag s.flow s.flow) (s.class == s.class) (flag-self s.flow) (eq-eqb s.class s.class refl))
    (eq-eqb s.index s.index refl)

pub id-same : IsSame same_id
id-same = record { to = id-to; self = id-self }

source-to : (s t : Source) → same_source s t ≡ true → s ≡ t
source-to s t h =
    let parts = and-split (same_stream s.stream t.stream) (same_id s.id t.id) h in
    let streams = stream-to s.stream t.stream parts.0 in
    let ids = id-to s.id t.id parts.1 in
    λ j. record { stream = streams j; id = ids j }

source-self : (s : Source) → same_source s s ≡ true
source-self s = and-both (same_stream s.stream s.stream) (same_id s.id s.id) (stream-self s.stream) (id-self s.id)

pub source-same : IsSame same_source
source-same = record { to = source-to; self = source-self }
