-- Totals of headers after headers.
use Rattle.std.proofs.Common.{◌≡◌, ℕ, ◌+◌, ◌<◌, ◌^◌, Bool, true, false, cond, List, [], ◌∷◌, ◌++◌, length, min, refl, sym, ap, ◌∙◌, arith}
use Rattle.std.proofs.lemmas.List.{append_assoc, append-nil}
use Rattle.std.proofs.lemmas.List.Sums.{sum_by-append, count_by-le-length}
use Rattle.std.specs.List.{count_by}
use Rattle.header_lanes.specs.declared.header.Kind.{Kind}
use Rattle.header_lanes.specs.declared.header.Kind.TheVariants.{Unscanned, Short, Length, Undefined, Arp, Ipv4, Ipv6, OtherType, BadIp}
use Rattle.header_lanes.specs.declared.header.HeaderFacts.{HeaderFacts}
use Rattle.sample_taps.specs.Classes.{same_kind, headers_counted, has_kind, is_tagged, has_protocol, counted, classes, one_if, with_header, with_headers}

abbrev most : ℕ
most = 18446744073709551615

one_more : (b : Bool) (n s : ℕ) → s ≡ n + cond b 1 0 → one_if b (min n most) ≡ min s most
one_more true n s is = omega (arith, is)
one_more false n s is = omega (arith, is)

counted_one : (test : HeaderFacts → Bool) (f : HeaderFacts) (fs : List HeaderFacts)
    → one_if (test f) (counted test fs) ≡ counted test (fs ++ f ∷ [])
counted_one test f fs =
    one_more (test f) (count_by test fs) (count_by test (fs ++ f ∷ []))
    (omega (arith, sum_by-append (λ x. cond (test x) 1 0) fs (f ∷ [])))

pub classes_one : (fs : List HeaderFacts) (f : HeaderFacts) → with_header (classes fs) f ≡ classes (fs ++ f ∷ [])
classes_one fs f = λ j. record {
  unscanned = counted_one (has_kind Unscanned) f fs j;
  short = counted_one (has_kind Short) f fs j;
  length = counted_one (has_kind Length) f fs j;
  undefined = counted_one (has_kind Undefined) f fs j;
  arp = counted_one (has_kind Arp) f fs j;
  ipv4 = counted_one (has_kind Ipv4) f fs j;
  ipv6 = counted_one (has_kind Ipv6) f fs j;
  other = counted_one (has_kind OtherType) f fs j;
  bad_ip = counted_one (has_kind BadIp) f fs j;
  tagged = counted_one is_tagged f fs j;
  tcp = counted_one (has_protocol 6) f fs j;
  udp = counted_one (has_protocol 17) f fs j;
}

pub classes_more : (xs ys : List HeaderFacts) → with_headers (classes xs) ys ≡ classes (xs ++ ys)
classes_more xs [] = ap classes (sym (append-nil xs))
classes_more xs (y ∷ ys) =
    ap (λ t. with_headers t ys) (classes_one xs y) ∙ classes_more (xs ++ y ∷ []) ys ∙ ap classes (append_assoc xs (y ∷ []) ys)

pub counted_exactly : (test : HeaderFacts → Bool) (fs : List HeaderFacts) → length fs < 2 ^ 64 → counted test fs ≡ count_by test fs
counted_exactly test fs few = omega (arith, few, count_by-le-length test fs)

-- ---- each header is of one kind

-- a sum over the kinds
abbrev total : (Kind → ℕ) → ℕ
total n = n Unscanned + n Short + n Length + n Undefined + n Arp + n Ipv4 + n Ipv6 + n OtherType + n BadIp

kind_count : Kind → List HeaderFacts → ℕ
kind_count k fs = count_by (has_kind k) fs

one : Kind → Kind → ℕ
one k j = cond (same_kind k j) 1 0

kind_more : (k : Kind) (f : HeaderFacts) (fs : List HeaderFacts) → kind_count k (f ∷ fs) ≡ one k f.kind + kind_count k fs
unfolding kind_count one
kind_more k f fs = omega (arith, sum_by-append (λ x. cond (has_kind k x) 1 0) (f ∷ []) fs)

is_one : (j : Kind) → total (λ k. one k j) ≡ 1
unfolding one
is_one Unscanned = refl
is_one Short = refl
is_one Length = refl
is_one Undefined = refl
is_one Arp = refl
is_one Ipv4 = refl
is_one Ipv6 = refl
is_one OtherType = refl
is_one BadIp = refl

kinds_none : total (λ k. kind_count k []) ≡ 0
unfolding kind_count
kinds_none = refl

kinds_are_all : (fs : List HeaderFacts) → total (λ k. kind_count k fs) ≡ length fs
kinds_are_all [] = kinds_none
kinds_are_all (f ∷ fs) =
    omega (
      arith,
      kind_more Unscanned f fs,
      kind_more Short f fs,
      kind_more Length f fs,
      kind_more Undefined f fs,
      kind_more Arp f fs,
      kind_more Ipv4 f fs,
      kind_more Ipv6 f fs,
      kind_more OtherType f fs,
      kind_more BadIp f fs,
      is_one f.kind,
      kinds_are_all fs,
    )

kind_exactly : (k : Kind) (fs : List HeaderFacts) → length fs < 2 ^ 64 → counted (has_kind k) fs ≡ kind_count k fs
unfolding kind_count
kind_exactly k fs few = counted_exactly (has_kind k) fs few

pub one_kind_each : (fs : List HeaderFacts) → length fs < 2 ^ 64 → headers_counted (classes fs) ≡ length fs
one_kind_each fs few = (λ j. total (λ k. kind_exactly k fs few j)) ∙ kinds_are_all fs
