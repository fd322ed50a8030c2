-- Where the slices of a record stand in the body that it was read from.
use Rattle.std.proofs.Common.{◌≡◌, ℕ, ◌+◌, List, ◌++◌, length, Result, Ok, Err, ap, append_assoc, arith}
use Rattle.std.specs.Prelude.{IfOk}
use Rattle.std.proofs.lemmas.List.{length-append}
use Rattle.wire_spec.specs.declared.pad.Pad.{Pad}
use Rattle.wire_spec.specs.declared.fault.Fault.{Fault}
use Rattle.wire_spec.specs.Heads.{address_tree}
use Rattle.wire_spec.specs.Padding.{padding_of}
use Rattle.wire_spec.specs.Tables.{agent_address, extended_user, extended_url, extended_mpls}
use Rattle.wire_spec.specs.Whole.{SpellsFront}
use Rattle.wire_spec.proofs.Spellings.{spelled_length}
use Rattle.data_format.specs.Addresses.{address_of}
use Rattle.data_format.proofs.Ranges.{part_stands}
use Rattle.as_paths.proofs.WordSpellings.{words_alike}
use Rattle.rec_more.specs.declared.user.UserRec.{UserRec}
use Rattle.rec_more.specs.declared.url.UrlRec.{UrlRec}
use Rattle.rec_more.specs.declared.mpls.MplsRec.{MplsRec}
use Rattle.rec_more.specs.Contents.{user_content, HasNames, url_content, HasTexts, mpls_content, in_bytes, out_bytes, place_of_in, HasStacks}

-- ---- users

names_stand : (p : Pad) (body : List ℕ) (r : UserRec) → SpellsFront p extended_user body (user_content r) → HasNames body r
names_stand p body r (fields, tail, (w1, r1, one, (o1, r2, (n1, x1, count1, (v1, q1, is1, pad1, g1), f1), (w2, r3, two, (o2, r4, (n2, x2, count2, (v2, q2, is2, pad2, g2), f2), last, e4), e3), e2), e1), same, e0) =
    let to_source : body ≡ (w1 ++ n1) ++ (v1 ++ (q1 ++ (r2 ++ tail))) =
    rw (e0, e1, e2, f1, g1) (simp append_assoc) in
    let to_destination : body ≡ (w1 ++ (n1 ++ (v1 ++ (q1 ++ (w2 ++ n2))))) ++ (v2 ++ (q2 ++ (r4 ++ tail))) =
    rw (e0, e1, e2, e3, e4, f1, g1, f2, g2) (simp append_assoc) in
    let before_source : length (w1 ++ n1) ≡ 8 =
    omega (arith, length-append w1 n1, ap length one.1, ap length count1.1) in
    let before_destination : length (w1 ++ (n1 ++ (v1 ++ (q1 ++ (w2 ++ n2)))))
    ≡ 16 + (length r.src_user.now + padding_of (length r.src_user.now)) =
    omega (
      arith,
      ap length is1,
      length-append w1 (n1 ++ (v1 ++ (q1 ++ (w2 ++ n2)))),
      length-append n1 (v1 ++ (q1 ++ (w2 ++ n2))),
      length-append v1 (q1 ++ (w2 ++ n2)),
      length-append q1 (w2 ++ n2),
      length-append w2 n2,
      ap length one.1,
      ap length two.1,
      ap length count1.1,
      ap length count2.1,
      pad1.0,
    ) in (
      part_stands body (w1 ++ n1) v1 (q1 ++ (r2 ++ tail)) r.src_user.now 8 to_source is1 before_source,
      part_stands body (w1 ++ (n1 ++ (v1 ++ (q1 ++ (w2 ++ n2))))) v2 (q2 ++ (r4 ++ tail)) r.dst_user.now
          (16 + (length r.src_user.now + padding_of (length r.src_user.now))) to_destination is2 before_destination,
    )

pub given_names : (p : Pad) (body : List ℕ) (r : Result UserRec Fault)
    → IfOk r (λ x. SpellsFront p extended_user body (user_content x)) → IfOk r (λ x. HasNames body x)
given_names p body (Ok x) h = names_stand p body x h
given_names p body (Err f) h = tt

-- ---- URLs

texts_stand : (p : Pad) (body : List ℕ) (r : UrlRec) → SpellsFront p extended_url body (url_content r) → HasTexts body r
texts_stand p body r (fields, tail, (w1, r1, one, (o1, r2, (n1, x1, count1, (v1, q1, is1, pad1, g1), f1), (o2, r4, (n2, x2, count2, (v2, q2, is2, pad2, g2), f2), last, e4), e2), e1), same, e0) =
    let to_url : body ≡ (w1 ++ n1) ++ (v1 ++ (q1 ++ (r2 ++ tail))) =
    rw (e0, e1, e2, f1, g1) (simp append_assoc) in
    let to_host : body ≡ (w1 ++ (n1 ++ (v1 ++ (q1 ++ n2)))) ++ (v2 ++ (q2 ++ (r4 ++ tail))) =
    rw (e0, e1, e2, e4, f1, g1, f2, g2) (simp append_assoc) in
    let before_url : length (w1 ++ n1) ≡ 8 =
    omega (arith, length-append w1 n1, ap length one.1, ap length count1.1) in
    let before_host : length (w1 ++ (n1 ++ (v1 ++ (q1 ++ n2))))
    ≡ 12 + (length r.url.now + padding_of (length r.url.now)) =
    omega (
      arith,
      ap length is1,
      length-append w1 (n1 ++ (v1 ++ (q1 ++ n2))),
      length-append n1 (v1 ++ (q1 ++ n2)),
      length-append v1 (q1 ++ n2),
      length-append q1 n2,
      ap length one.1,
      ap length count1.1,
      ap length count2.1,
      pad1.0,
    ) in (
      part_stands body (w1 ++ n1) v1 (q1 ++ (r2 ++ tail)) r.url.now 8 to_url is1 before_url,
      part_stands body (w1 ++ (n1 ++ (v1 ++ (q1 ++ n2)))) v2 (q2 ++ (r4 ++ tail)) r.host.now
          (12 + (length r.url.now + padding_of (length r.url.now))) to_host is2 before_host,
    )

pub given_texts : (p : Pad) (body : List ℕ) (r : Result UrlRec Fault)
    → IfOk r (λ x. SpellsFront p extended_url body (url_content x)) → IfOk r (λ x. HasTexts body x)
given_texts p body (Ok x) h = texts_stand p body x h
given_texts p body (Err f) h = tt

-- ---- label stacks

stacks_stand : (p : Pad) (body : List ℕ) (r : MplsRec) → SpellsFront p extended_mpls body (mpls_content r) → HasStacks body r
stacks_stand p body r (fields, tail, (a, r1, address, (l, r2, (n, came_in, count, words, f1), (m, r3, (k, went_out, how_many, more, f2), last, e3), e2), e1), same, e0) =
    let to_in : body ≡ (a ++ n) ++ (came_in ++ (r2 ++ tail)) =
    rw (e0, e1, e2, f1) (simp append_assoc) in
    let to_out : body ≡ (a ++ (l ++ k)) ++ (went_out ++ (r3 ++ tail)) =
    rw (e0, e1, e2, e3, f2) (simp append_assoc) in
    let hop = spelled_length p agent_address (address_tree (address_of r.nexthop)) a address in
    let in_same = words_alike p r.in_stack came_in words in
    let before_in : length (a ++ n) ≡ place_of_in r = omega (arith, hop, length-append a n, ap length count.1) in
    let before_out : length (a ++ (l ++ k)) ≡ place_of_in r + length (in_bytes r) + 4 = omega (
      arith,
      hop,
      length-append a (l ++ k),
      length-append l k,
      length-append n came_in,
      ap length f1,
      ap length in_same,
      ap length count.1,
      ap length how_many.1,
    ) in (
      part_stands body (a ++ n) came_in (r2 ++ tail) (in_bytes r) (place_of_in r) to_in in_same before_in,
      part_stands body (a ++ (l ++ k)) went_out (r3 ++ tail) (out_bytes r) (place_of_in r + length (in_bytes r) + 4) to_out
          (words_alike p r.out_stack went_out more) before_out,
    )

pub given_stacks : (p : Pad) (body : List ℕ) (r : Result MplsRec Fault)
    → IfOk r (λ x. SpellsFront p extended_mpls body (mpls_content x)) → IfOk r (λ x. HasStacks body x)
given_stacks p body (Ok x) h = stacks_stand p body x h
given_stacks p body (Err f) h = tt
