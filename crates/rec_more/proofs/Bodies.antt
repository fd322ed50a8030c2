-- The bodies of label stacks and of translated addresses, item by item.
use Rattle.std.proofs.Common.{◌≡◌, ℕ, List, [], ◌++◌, ap, ◌∙◌, append_assoc}
use Rattle.std.specs.Int.{w32, to_be_bytes}

abbrev word_bytes : ℕ → List ℕ
word_bytes n = to_be_bytes w32 n

-- the items of two addresses
pub nat_fields : (k : ℕ) (v source : List ℕ) (l : ℕ) (w destination : List ℕ)
    → word_bytes k ++ v ≡ source → word_bytes l ++ w ≡ destination
    → word_bytes k ++ (v ++ (word_bytes l ++ (w ++ []))) ≡ source ++ (destination ++ [])
nat_fields k v source l w destination one two =
    parts (word_bytes k) v (word_bytes l) w
    ∙ ap (λ (t : List ℕ). t ++ ((word_bytes l ++ w) ++ [])) one
    ∙ ap (λ (t : List ℕ). source ++ (t ++ [])) two
  where
    parts : (k v l w : List ℕ) → k ++ (v ++ (l ++ (w ++ []))) ≡ (k ++ v) ++ ((l ++ w) ++ [])
    parts k v l w = simp append_assoc

-- the items of an address and two lists, where those of the lists are as long and spelled as they are in the value
pub mpls_fields : (k : ℕ) (v address : List ℕ) (n n' : ℕ) (p p' : List ℕ) (m m' : ℕ) (c c' : List ℕ)
    → word_bytes k ++ v ≡ address → n ≡ n' → p ≡ p' → m ≡ m' → c ≡ c'
    → word_bytes k ++ (v ++ (word_bytes n ++ (p ++ (word_bytes m ++ (c ++ [])))))
    ≡ address ++ ((word_bytes n' ++ p') ++ ((word_bytes m' ++ c') ++ []))
mpls_fields k v address n n' p p' m m' c c' e en ep em ec =
    parts (word_bytes k) v (word_bytes n) p (word_bytes m) c
    ∙ ap (λ (t : List ℕ). whole t n p m c) e
    ∙ ap (λ (x : ℕ). whole address x p m c) en
    ∙ ap (λ (t : List ℕ). whole address n' t m c) ep
    ∙ ap (λ (x : ℕ). whole address n' p' x c) em
    ∙ ap (λ (t : List ℕ). whole address n' p' m' t) ec
  where
    whole : List ℕ → ℕ → List ℕ → ℕ → List ℕ → List ℕ
    whole t x q y r = t ++ ((word_bytes x ++ q) ++ ((word_bytes y ++ r) ++ []))

    parts : (k v n p m c : List ℕ)
        → k ++ (v ++ (n ++ (p ++ (m ++ (c ++ []))))) ≡ (k ++ v) ++ ((n ++ p) ++ ((m ++ c) ++ []))
    parts k v n p m c = simp append_assoc
