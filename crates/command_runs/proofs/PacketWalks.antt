-- Two walks over the packets of one file.
use Rattle.std.proofs.Common.{◌≡◌, ℕ, zero, suc, ◌<◌, ◌≤◌, List, [], ◌∷◌, ◌++◌, length, take, drop, refl, sym, ap, subst, ◌∙◌, arith}
use Rattle.capture_spec.specs.declared.byte_order.ByteOrder.{ByteOrder}
use Rattle.capture_spec.specs.PcapFiles.{Front, Holds, Packet, Stops, Walks, front_of}
use Rattle.capture_spec.proofs.PacketWalks.{end_stops}

-- ---- how two walks stand to each other: they are the same, or one goes on behind the other

pub data Compared (order : ByteOrder) (ps qs : List Packet) (r s : List ℕ) : Type 0 where
  same : ps ≡ qs → r ≡ s → Compared order ps qs r s
  shorter : (p : Packet) (more : List Packet) (mid : List ℕ) → qs ≡ ps ++ p ∷ more → front_of order r ≡ Holds p mid
      → Compared order ps qs r s
  longer : (p : Packet) (more : List Packet) (mid : List ℕ) → ps ≡ qs ++ p ∷ more → front_of order s ≡ Holds p mid
      → Compared order ps qs r s

same_packet : (x : Front) (p q : Packet) (m n : List ℕ) → x ≡ Holds p m → x ≡ Holds q n → (p ≡ q) × (m ≡ n)
same_packet x p q m n one two = let both : Holds p m ≡ Holds q n = sym one ∙ two in (cc, cc)

pub compare : (order : ByteOrder) (ps qs : List Packet) (r s bytes : List ℕ) → Walks order bytes ps r
    → Walks order bytes qs s → Compared order ps qs r s
compare order [] [] r s bytes one two = same refl (sym one ∙ two)
compare order [] (q ∷ qs) r s bytes one (mid, front, two) =
    shorter q qs mid refl (ap (front_of order) (sym one) ∙ front)
compare order (p ∷ ps) [] r s bytes (mid, front, one) two =
    longer p ps mid refl (ap (front_of order) (sym two) ∙ front)
compare order (p ∷ ps) (q ∷ qs) r s bytes (m, here, one) (n, there, two) =
    let both = same_packet (front_of order bytes) p q m n here there in
    let rest : Compared order ps qs r s =
    compare order ps qs r s m one (subst (λ l. Walks order l qs s) (sym both.1) two) in
    elim rest [
      | same is left ↦ same (ap (λ l. p ∷ l) is ∙ ap (λ (x : Packet). x ∷ qs) both.0) left
      | shorter x more mid is front ↦
          shorter x more mid (ap (λ l. q ∷ l) is ∙ ap (λ (y : Packet). y ∷ (ps ++ x ∷ more)) (sym both.0)) front
      | longer x more mid is front ↦
          longer x more mid (ap (λ l. p ∷ l) is ∙ ap (λ (y : Packet). y ∷ (qs ++ x ∷ more)) both.0) front
    ]

-- ---- a walk is cut

-- the first of the packets, and those behind them
pub walk_cut : (n : ℕ) (order : ByteOrder) (ps : List Packet) (bytes rest : List ℕ) → Walks order bytes ps rest
    → n ≤ length ps
    → (mid : List ℕ) × (Walks order bytes (take n ps) mid × Walks order mid (drop n ps) rest)
walk_cut zero order ps bytes rest w fits = (bytes, (refl, w))
walk_cut (suc n) order [] bytes rest w fits = absurd (omega (arith, fits))
walk_cut (suc n) order (p ∷ ps) bytes rest (more, front, w) fits =
    let cut = walk_cut n order ps more rest w (omega (arith, fits)) in
    (cut.0, ((more, front, cut.1.0), cut.1.1))

stops_holds : (p : Packet) (more : List ℕ) → Stops ≡ Holds p more → ⊥
stops_holds p more e = cc

-- where a packet is, some bytes are
pub some_bytes : (order : ByteOrder) (bytes : List ℕ) (p : Packet) (more : List ℕ) → front_of order bytes ≡ Holds p more
    → 0 < length bytes
some_bytes order [] p more e = absurd (stops_holds p more (sym (end_stops order [] refl) ∙ e))
some_bytes order (b ∷ bytes) p more e = omega arith

pub walk_some : (order : ByteOrder) (ps : List Packet) (bytes rest : List ℕ) → Walks order bytes ps rest
    → 0 < length ps → 0 < length bytes
walk_some order [] bytes rest w some = absurd (omega (arith, some))
walk_some order (p ∷ ps) bytes rest (more, front, w) some = some_bytes order bytes p more front

-- what is left behind some packets was there before them
pub walk_left : (order : ByteOrder) (ps : List Packet) (bytes rest : List ℕ) → Walks order bytes ps rest
    → 0 < length rest → 0 < length bytes
walk_left order [] bytes rest w some = subst (λ (l : List ℕ). 0 < length l) (sym w) some
walk_left order (p ∷ ps) bytes rest (more, front, w) some = some_bytes order bytes p more front
