-- The facts of a slot by what the lanes tell of it.
use Rattle.std.proofs.Common.{◌≡◌, ℕ, ◌+◌, ◌-◌, ◌*◌, ◌%◌, ◌<◌, ◌≤◌, List, refl, sym, ap, ap₂, ◌∙◌, arith, length, min, Bool, true, false, not, cond, ◌&&◌, nat_eq, nat_le, Option, Some, None}
use Rattle.std.proofs.lemmas.Bool.Decides.{nat_tests}
use Rattle.header_lanes.specs.declared.header.Kind.TheVariants.{Unscanned, Short, Length, Undefined, Arp, OtherType}
use Rattle.header_lanes.specs.declared.header.HeaderFacts.{HeaderFacts}
use Rattle.header_lanes.specs.declared.slot.Slot.{Slot}
use Rattle.header_lanes.specs.Numbers.{number_at, bare}
use Rattle.header_lanes.specs.Internet.{ipv4_at, ipv6_at}
use Rattle.header_lanes.specs.Ethernet.{is_tag, vlan_of, type_behind, by_ethertype, by_type, from_type, ethernet}
use Rattle.header_lanes.specs.Facts.{facts_in}
use Rattle.header_lanes.proofs.Held.{same_byte, is_within, both_are}
use Rattle.header_lanes.specs.Slots.{head, owed, flag, is_frame, type_at, base, holds_type, type_of, has_type, has_vlan, slot_vlan, slot_type, type_path, path, kind_of_path, framed}

-- what follows, of a frame with these facts
abbrev pub by_path : ℕ → (HeaderFacts → HeaderFacts) → (HeaderFacts → HeaderFacts) → HeaderFacts → HeaderFacts
by_path k ipv4 ipv6 f = cond (nat_eq k 5) (ipv4 f) (cond (nat_eq k 6) (ipv6 f) (record f { kind = kind_of_path k }))

type_ways : (x y z u w : Bool) (v : Option ℕ) (t : ℕ) (ipv4 ipv6 : HeaderFacts → HeaderFacts) → (x ≡ true → y ≡ true)
    → cond x (record (framed v None) { kind = Length }) (cond y (record (framed v None) { kind = Undefined })
    (cond z (record (framed v (Some t)) { kind = Arp }) (cond u (ipv4 (framed v (Some t))) (cond w (ipv6 (framed v (Some t))) (record (framed v (Some t)) { kind = OtherType })))))
    ≡ by_path (cond x 2 (cond y 3 (cond z 4 (cond u 5 (cond w 6 7))))) ipv4 ipv6 (framed v (cond y None (Some t)))
type_ways true true z u w v t ipv4 ipv6 up = refl
type_ways true false z u w v t ipv4 ipv6 up = absurd (no_more (up refl))
  where
    no_more : false ≡ true → ⊥
    no_more e = cc
type_ways false true z u w v t ipv4 ipv6 up = refl
type_ways false false true u w v t ipv4 ipv6 up = refl
type_ways false false false true w v t ipv4 ipv6 up = refl
type_ways false false false false true v t ipv4 ipv6 up = refl
type_ways false false false false false v t ipv4 ipv6 up = refl

lengths_are_below : (t : ℕ) → nat_le t 1500 ≡ true → nat_le t 1535 ≡ true
lengths_are_below t is = grind (arith, nat_tests)

type_shape : (v : Option ℕ) (t b : ℕ) (h : List ℕ)
    → by_type (framed v None) t b h ≡ by_path (type_path t) (λ f. ipv4_at f b h) (λ f. ipv6_at f b h) (framed v (cond (nat_le t 1535) None (Some t)))
unfolding by_type by_ethertype
type_shape v t b h =
    type_ways (nat_le t 1500) (nat_le t 1535) (nat_eq t 0x0806) (nat_eq t 0x0800) (nat_eq t 0x86dd) v t
    (λ f. ipv4_at f b h) (λ f. ipv6_at f b h) (lengths_are_below t)

-- a frame that ends before its type
cut_ways : (there y : Bool) (v : Option ℕ) (t k : ℕ) (ipv4 ipv6 : HeaderFacts → HeaderFacts)
    → cond there (by_path k ipv4 ipv6 (framed v (cond y None (Some t)))) (record (framed v None) { kind = Short })
    ≡ by_path (cond there k 1) ipv4 ipv6 (framed v (cond (there && not y) (Some t) None))
cut_ways true true v t k ipv4 ipv6 = refl
cut_ways true false v t k ipv4 ipv6 = refl
cut_ways false y v t k ipv4 ipv6 = refl

-- where the type stands, for whatever is made of the place
placed : {X : Type 0} (made : Option ℕ → X) (a b c t u : Bool)
    → made (cond a (cond t (cond b (cond u (cond c (Some 20) None) (Some 16)) None) (Some 12)) None)
    ≡ (let once = t && a in
    let twice = (once && u) && b in
    cond (cond twice c (cond once b a)) (made (Some (cond twice 20 (cond once 16 12)))) (made None))
placed made false b c true u = refl
placed made false b c false u = refl
placed made true b c false u = refl
placed made true false c true true = refl
placed made true false c true false = refl
placed made true true c true false = refl
placed made true true false true true = refl
placed made true true true true true = refl

-- a header reaches beyond the type by the test for its place
reached : (reaches : ℕ → Bool) (once twice : Bool)
    → cond twice (reaches 22) (cond once (reaches 18) (reaches 14)) ≡ reaches (cond twice 20 (cond once 16 12) + 2)
reached reaches once true = refl
reached reaches true false = refl
reached reaches false false = refl

-- behind its type, by the tests of the tags
base_is_behind : (once u b : Bool) → ◌≡◌ {A = ℕ} (cond ((once && u) && b) 20 (cond once 16 12) + 2) (cond ((once && u) && b) 22 (cond once 18 14))
base_is_behind true true true = refl
base_is_behind true true false = refl
base_is_behind true false b = refl
base_is_behind false u b = refl

either_way : {X : Type 0} (e : Bool) (x y : X) (w : Bool → X) → x ≡ w true → y ≡ w false → cond e x y ≡ w e
either_way true x y w first second = first
either_way false x y w first second = second

bare_ways : (x y : Bool) (ipv4 ipv6 : HeaderFacts → HeaderFacts)
    → cond x (ipv4 (bare Short)) (cond y (ipv6 (bare Short)) (bare Unscanned)) ≡ by_path (cond x 5 (cond y 6 0)) ipv4 ipv6 (framed None None)
bare_ways true y ipv4 ipv6 = refl
bare_ways false true ipv4 ipv6 = refl
bare_ways false false ipv4 ipv6 = refl

-- a frame, by its type's place and what is there
frame_shape : (h : List ℕ) → ethernet h ≡ (
    let once = is_tag (number_at h 12) && nat_le 14 (length h) in
    let twice = (once && is_tag (number_at h 16)) && nat_le 18 (length h) in
    let at = cond twice 20 (cond once 16 12) in
    let there = nat_le (at + 2) (length h) in
    let type = number_at h at in
    by_path (cond there (type_path type) 1) (λ f. ipv4_at f (at + 2) h) (λ f. ipv6_at f (at + 2) h)
    (framed (vlan_of h) (cond (there && not (nat_le type 1535)) (Some type) None)))
unfolding ethernet type_behind from_type
frame_shape h =
    let fits : ℕ → Bool = λ n. nat_le n (length h) in
    let once = is_tag (number_at h 12) && fits 14 in
    let twice = (once && is_tag (number_at h 16)) && fits 18 in
    let at : ℕ = cond twice 20 (cond once 16 12) in
    let type = number_at h at in
    placed (λ o. from_type (framed (vlan_of h) None) o h) (fits 14) (fits 18) (fits 22) (is_tag (number_at h 12)) (is_tag (number_at h 16))
    ∙ ap (λ r. cond r (from_type (framed (vlan_of h) None) (Some at) h) (from_type (framed (vlan_of h) None) None h)) (reached fits once twice)
    ∙ ap (λ g. cond (fits (at + 2)) g (record (framed (vlan_of h) None) { kind = Short })) (type_shape (vlan_of h) type (at + 2) h)
    ∙ cut_ways (fits (at + 2)) (nat_le type 1535) (vlan_of h) type (type_path type) (λ f. ipv4_at f (at + 2) h) (λ f. ipv6_at f (at + 2) h)

-- the facts of a slot
shape : (s : Slot)
    → owed s ≡ by_path (path s) (λ f. ipv4_at f (base s) (head s)) (λ f. ipv6_at f (base s) (head s)) (framed (slot_vlan s) (slot_type s))
unfolding facts_in vlan_of
shape s =
    let h = head s in
    let t = is_tag (number_at h 12) in
    let u = is_tag (number_at h 16) in
    let fits : ℕ → Bool = λ n. nat_le n (length h) in
    let whole : Bool → HeaderFacts = λ e.
    let once = (e && t) && fits 14 in
    let twice = (once && u) && fits 18 in
    let at = cond twice 20 (cond once 16 12) in
    let there = fits (at + 2) in
    let type = number_at h at in
    let b = cond twice 22 (cond once 18 (cond e 14 0)) in
    by_path (cond e (cond there (type_path type) 1) (cond (nat_eq s.protocol 11) 5 (cond (nat_eq s.protocol 12) 6 0))) (λ f. ipv4_at f b h) (λ f. ipv6_at f b h)
    (framed (cond ((e && t) && fits 16) (Some (number_at h 14 % 4096)) None) (cond ((e && there) && not (nat_le type 1535)) (Some type) None)) in
    let once = t && fits 14 in
    let at : ℕ = cond ((once && u) && fits 18) 20 (cond once 16 12) in
    let there = fits (at + 2) in
    let type = number_at h at in
    let frame = framed (vlan_of h) (cond (there && not (nat_le type 1535)) (Some type) None) in
    either_way (nat_eq s.protocol 1) _ _ whole
    (frame_shape h ∙ ap (λ b. by_path (cond there (type_path type) 1) (λ f. ipv4_at f b h) (λ f. ipv6_at f b h) frame) (base_is_behind once u (fits 18)))
    (bare_ways (nat_eq s.protocol 11) (nat_eq s.protocol 12) (λ f. ipv4_at f 0 h) (λ f. ipv6_at f 0 h))

whole_of : Slot → ℕ → HeaderFacts
whole_of s k = by_path k (λ f. ipv4_at f (base s) (head s)) (λ f. ipv6_at f (base s) (head s)) (framed (slot_vlan s) (slot_type s))

pub as_ipv4 : (s : Slot) → path s ≡ 5 → ipv4_at (framed (slot_vlan s) (slot_type s)) (base s) (head s) ≡ owed s
unfolding whole_of
as_ipv4 s is = sym (shape s ∙ ap (whole_of s) is)

pub as_ipv6 : (s : Slot) → path s ≡ 6 → ipv6_at (framed (slot_vlan s) (slot_type s)) (base s) (head s) ≡ owed s
unfolding whole_of
as_ipv6 s is = sym (shape s ∙ ap (whole_of s) is)

other_path : (k : ℕ) (ipv4 ipv6 : HeaderFacts → HeaderFacts) (f : HeaderFacts) → nat_eq k 5 ≡ false → nat_eq k 6 ≡ false
    → by_path k ipv4 ipv6 f ≡ record f { kind = kind_of_path k }
other_path k ipv4 ipv6 f four six =
    ap (λ c. cond c (ipv4 f) (cond (nat_eq k 6) (ipv6 f) (record f { kind = kind_of_path k }))) four
    ∙ ap (λ c. cond c (ipv6 f) (record f { kind = kind_of_path k })) six

pub as_frame : (s : Slot) (k : ℕ) → path s ≡ k → nat_eq k 5 ≡ false → nat_eq k 6 ≡ false
    → record (framed (slot_vlan s) (slot_type s)) { kind = kind_of_path k } ≡ owed s
unfolding whole_of
as_frame s k is four six =
    sym (shape s ∙ ap (whole_of s) is
    ∙ other_path k (λ f. ipv4_at f (base s) (head s)) (λ f. ipv6_at f (base s) (head s)) (framed (slot_vlan s) (slot_type s)) four six)

base_ways : (x y z : Bool) → cond x 22 (cond y 18 (cond z 14 0)) ≤ 22
base_ways true y z = omega arith
base_ways false true z = omega arith
base_ways false false true = omega arith
base_ways false false false = omega arith

pub base_is_near : (s : Slot) → base s ≤ 22
base_is_near s = base_ways _ _ _

type_is_before : (e t a u b c d : Bool) → ((e && c) && d) ≡ true
    → ◌≡◌ {A = ℕ} (cond ((((e && t) && a) && u) && b) 22 (cond ((e && t) && a) 18 (cond e 14 0)) - 2) (cond ((((e && t) && a) && u) && b) 20 (cond ((e && t) && a) 16 12))
type_is_before false t a u b c d is = cc
type_is_before true true true true true c d is = refl
type_is_before true true true true false c d is = refl
type_is_before true true true false b c d is = refl
type_is_before true true false u b c d is = refl
type_is_before true false a u b c d is = refl

-- a type that is told stands before the base
pub type_is_there : (s : Slot) → has_type s ≡ true → base s - 2 ≡ type_at s
type_is_there s is = type_is_before (is_frame s) (is_tag (number_at (head s) 12)) (nat_le 14 (length (head s))) (is_tag (number_at (head s) 16)) (nat_le 18 (length (head s))) (holds_type s) (not (nat_le (type_of s) 1535)) is

-- what the flags of the lanes are made of
pub read_behind : (f : ℕ → ℕ) (once twice : Bool) (j : ℕ) → cond twice (f (20 + j)) (cond once (f (16 + j)) (f (12 + j))) ≡ f (cond twice 20 (cond once 16 12) + j)
read_behind f once true j = refl
read_behind f true false j = refl
read_behind f false false j = refl

pub type_flag : (x y : Bool) → cond y 0 (flag x) ≡ flag (x && not y)
type_flag true true = refl
type_flag true false = refl
type_flag false true = refl
type_flag false false = refl

pub small_protocol : (p k : ℕ) → k < 255 → nat_eq (min p 255) k ≡ nat_eq p k
small_protocol p k lt = grind (arith, nat_tests)

pub flag_is_set : (b : Bool) → flag b ≡ 255 → b ≡ true
flag_is_set true is = refl
flag_is_set false is = cc

pub flag_is_clear : (b : Bool) → (flag b ≡ 255 → ⊥) → b ≡ false
flag_is_clear true clear = absurd (clear refl)
flag_is_clear false clear = refl

same_number : (s : Slot) (i : ℕ) → i + 2 ≤ length (head s) → number_at s.bytes i ≡ number_at (head s) i
same_number s i le = ap₂ (λ x y. x * 256 + y) (same_byte s i (omega (arith, le))) (same_byte s (i + 1) (omega (arith, le)))

vlan_is_within : (s : Slot) → has_vlan s ≡ true → 14 + 2 ≤ length (head s)
vlan_is_within s is = is_within 16 (length (head s)) (both_are (is_frame s && is_tag (number_at (head s) 12)) _ is).1

type_is_within : (s : Slot) → has_type s ≡ true → type_at s + 2 ≤ length (head s)
type_is_within s is =
    is_within (type_at s + 2) (length (head s)) (both_are (is_frame s) _ (both_are (is_frame s && holds_type s) _ is).0).1

pub vlan_told : (s : Slot) → flag (has_vlan s) ≡ 255 → Some (number_at s.bytes 14 % 4096) ≡ slot_vlan s
vlan_told s is =
    let set = flag_is_set (has_vlan s) is in
    ap (λ n. Some (n % 4096)) (same_number s 14 (vlan_is_within s set))
    ∙ sym (ap (λ b. cond b (Some (number_at (head s) 14 % 4096)) None) set)

pub no_vlan : (s : Slot) → (flag (has_vlan s) ≡ 255 → ⊥) → None ≡ slot_vlan s
no_vlan s clear = sym (ap (λ b. cond b (Some (number_at (head s) 14 % 4096)) None) (flag_is_clear (has_vlan s) clear))

pub type_told : (s : Slot) (i : ℕ) → i ≡ base s - 2 → flag (has_type s) ≡ 255 → Some (number_at s.bytes i) ≡ slot_type s
type_told s i at is =
    let set = flag_is_set (has_type s) is in
    ap (λ n. Some (number_at s.bytes n)) (at ∙ type_is_there s set)
    ∙ ap Some (same_number s (type_at s) (type_is_within s set))
    ∙ sym (ap (λ b. cond b (Some (type_of s)) None) set)

pub no_type : (s : Slot) → (flag (has_type s) ≡ 255 → ⊥) → None ≡ slot_type s
no_type s clear = sym (ap (λ b. cond b (Some (type_of s)) None) (flag_is_clear (has_type s) clear))

-- whatever is made of a frame's facts, put together from what was read
pub rebuilt : {f : HeaderFacts} {v v' e e' : Option ℕ} {b b' : ℕ} (made : HeaderFacts → ℕ → HeaderFacts) → f ≡ bare Short → v ≡ v' → e ≡ e' → b ≡ b'
    → made (record f { vlan = v; ethertype = e }) b ≡ made (framed v' e') b'
rebuilt {f} {v} {v'} {e} {e'} {b} {b'} made is vlan type at =
    ap (λ g. made (record g { vlan = v; ethertype = e }) b) is
    ∙ ap₂ (λ x y. made (framed x y) b) vlan type
    ∙ ap (made (framed v' e')) at
