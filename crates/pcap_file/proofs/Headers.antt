-- What the first bytes of an input say of its header.
use Rattle.std.proofs.Common.{◌≡◌, ◌≢◌, ℕ, ◌≤◌, true, false, if◌then◌else◌, List, length, take, drop, get_or, Option, Some, Result, Ok, Err, bytes_eq, refl, sym, ap, subst, ◌∙◌, arith, length-take, length-take-le, length-drop}
use Rattle.std.proofs.lemmas.Bool.{cond_both, both_ways}
use Rattle.std.proofs.lemmas.Slice.Eq.{bytes_eq-Decides}
use Rattle.capture_spec.specs.declared.byte_order.ByteOrder.{ByteOrder}
use Rattle.capture_spec.specs.declared.byte_order.ByteOrder.TheVariants.{HighFirst, LowFirst}
use Rattle.wire_spec.specs.declared.input_kind.InputKind.TheVariants.{Magic, Version, Link}
use Rattle.capture_spec.specs.PcapFiles.{HasHeader, PcapFault, four_at, magic, version, ethernet}
use Rattle.sflow_io.specs.declared.capture.ReadRefusal.{ReadRefusal}
use Rattle.sflow_io.specs.declared.capture.ReadRefusal.TheVariants.{ReadFault, BadInput, Spent}
use Rattle.pcap_file.specs.PcapAnswers.{HasNoHeader, ReadsHeader, header_in, header_reading}
use Rattle.byte_ends.specs.Seen.{Seen, Fills}
use Rattle.byte_ends.proofs.Filled.{full_room, front_read}
use Rattle.pcap_file.proofs.PacketFronts.{four_of_front}

same : (xs ys : List ℕ) → bytes_eq xs ys ≡ true → xs ≡ ys
same xs ys e = (bytes_eq-Decides xs ys).0 e

other : (xs ys : List ℕ) → bytes_eq xs ys ≡ false → xs ≢ ys
other xs ys e is = both_ways _ e ((bytes_eq-Decides xs ys).1 is)

-- bytes have one order
pub one_order : (o p : ByteOrder) (bytes : List ℕ) → bytes ≡ magic o → bytes ≡ magic p → o ≡ p
one_order HighFirst HighFirst bytes e f = refl
one_order LowFirst LowFirst bytes e f = refl
one_order HighFirst LowFirst bytes e f =
    let first : 0xa1 ≡ 0xd4 = ap (λ l. get_or l 0 0) (sym e ∙ f) in absurd (omega (arith, first))
one_order LowFirst HighFirst bytes e f =
    let first : 0xd4 ≡ 0xa1 = ap (λ l. get_or l 0 0) (sym e ∙ f) in absurd (omega (arith, first))

pub no_magic : (bytes : List ℕ) → four_at 0 bytes ≢ magic HighFirst → four_at 0 bytes ≢ magic LowFirst → HasNoHeader bytes
no_magic bytes high low HighFirst h = high h.magic_is
no_magic bytes high low LowFirst h = low h.magic_is

pub no_version : (order : ByteOrder) (bytes : List ℕ) → four_at 0 bytes ≡ magic order → four_at 4 bytes ≢ version order
    → HasNoHeader bytes
no_version order bytes m none p h =
    none (subst (λ o. four_at 4 bytes ≡ version o) (one_order p order _ h.magic_is m) h.version_is)

pub no_link : (order : ByteOrder) (bytes : List ℕ) → four_at 0 bytes ≡ magic order → four_at 20 bytes ≢ ethernet order
    → HasNoHeader bytes
no_link order bytes m none p h =
    none (subst (λ o. four_at 20 bytes ≡ ethernet o) (one_order p order _ h.magic_is m) h.link_is)

-- what the reading of a header says
abbrev pub SaysHeader : List ℕ → Result ByteOrder ReadRefusal → Type 0
SaysHeader bytes (Ok order) = HasHeader order bytes
SaysHeader bytes (Err (BadInput at kind)) = HasNoHeader bytes × PcapFault bytes at kind
SaysHeader bytes (Err ReadFault) = ⊥
SaysHeader bytes (Err Spent) = ⊥

in_says : (order : ByteOrder) (bytes : List ℕ) → four_at 0 bytes ≡ magic order → SaysHeader bytes (header_in order bytes)
unfolding header_in
in_says order bytes m =
    let no_link_there : Result ByteOrder ReadRefusal = Err (BadInput 20 Link) in
    let linked : Result ByteOrder ReadRefusal =
    if bytes_eq (four_at 20 bytes) (ethernet order) then Ok order else no_link_there in
    cond_both (bytes_eq (four_at 4 bytes) (version order)) linked (Err (BadInput 4 Version)) (SaysHeader bytes)
    (λ v. cond_both (bytes_eq (four_at 20 bytes) (ethernet order)) (Ok order) no_link_there (SaysHeader bytes)
    (λ l. record { magic_is = m; version_is = same _ _ v; link_is = same _ _ l })
    (λ l. (no_link order bytes m (other _ _ l), (refl, order, (m, same _ _ v, other _ _ l)))))
    (λ v. (no_version order bytes m (other _ _ v), (refl, order, (m, other _ _ v))))

pub reading_says : (bytes : List ℕ) → SaysHeader bytes (header_reading bytes)
unfolding header_reading
reading_says bytes =
    let none : Result ByteOrder ReadRefusal = Err (BadInput 0 Magic) in
    let low : Result ByteOrder ReadRefusal =
    if bytes_eq (four_at 0 bytes) (magic LowFirst) then header_in LowFirst bytes else none in
    cond_both (bytes_eq (four_at 0 bytes) (magic HighFirst)) (header_in HighFirst bytes) low (SaysHeader bytes)
    (λ h. in_says HighFirst bytes (same _ _ h))
    (λ h. cond_both (bytes_eq (four_at 0 bytes) (magic LowFirst)) (header_in LowFirst bytes) none (SaysHeader bytes)
    (λ l. in_says LowFirst bytes (same _ _ l))
    (λ l. (no_magic bytes (other _ _ h) (other _ _ l), (refl, other _ _ h, other _ _ l))))

-- the first 24 bytes say all
in_front : (order : ByteOrder) (bytes : List ℕ) → header_in order (take 24 bytes) ≡ header_in order bytes
unfolding header_in
in_front order bytes =
    rw (four_of_front 4 24 bytes (omega arith), four_of_front 20 24 bytes (omega arith)) refl

pub front_says : (bytes : List ℕ) → header_reading (take 24 bytes) ≡ header_reading bytes
unfolding header_reading
front_says bytes =
    rw (four_of_front 0 24 bytes (omega arith), in_front HighFirst bytes, in_front LowFirst bytes) refl

four_bytes : (order : ByteOrder) → length (ethernet order) ≡ 4
four_bytes HighFirst = refl
four_bytes LowFirst = refl

-- a header has 24 bytes
pub header_whole : (order : ByteOrder) (bytes : List ℕ) → HasHeader order bytes → 24 ≤ length bytes
header_whole order bytes h =
    omega (arith, ap length h.link_is, four_bytes order, length-take 4 (drop 20 bytes), length-drop 20 bytes)

-- ---- what was read of the input

to_reads : (bytes : List ℕ) (left : Option (List ℕ)) (r : Result ByteOrder ReadRefusal) → SaysHeader bytes r
    → (24 ≤ length bytes → left ≡ Some (drop 24 bytes)) → ReadsHeader bytes left r
to_reads bytes left (Ok order) h goes_on = (h, goes_on (header_whole order bytes h))
to_reads bytes left (Err (BadInput at kind)) h goes_on = h
to_reads bytes left (Err ReadFault) h goes_on = absurd h
to_reads bytes left (Err Spent) h goes_on = absurd h

module _ (count : ℕ) (bytes room : List ℕ) (old new : Seen) (long : length room ≡ 24)
    (told : old.told ≡ Some bytes) (f : Fills old new count room) where
  front : take 24 bytes ≡ take count room
  front = ap (λ n. take n bytes) (sym long) ∙ front_read old new count room bytes told f

  rest : 24 ≤ length bytes → new.told ≡ Some (drop 24 bytes)
  rest whole =
      let h =
      full_room old new count room bytes told f
      (omega (arith, long, whole, ap length front, length-take-le 24 bytes whole, length-take-le count room f.within)) in
      h.left_is ∙ ap (λ n. Some (drop n bytes)) long

  pub header_told : (r : Result ByteOrder ReadRefusal) → r ≡ header_reading (take count room)
      → ReadsHeader bytes new.told r
  header_told r e =
      let is : header_reading bytes ≡ r = sym (e ∙ ap header_reading (sym front) ∙ front_says bytes) in
      to_reads bytes new.told r (subst (SaysHeader bytes) is (reading_says bytes)) rest
