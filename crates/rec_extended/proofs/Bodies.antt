-- The bodies of routes, item by item.
use Rattle.std.proofs.Common.{◌≡◌, ℕ, List, [], ◌++◌, ap, ◌∙◌, append_assoc}
use Rattle.std.specs.Int.{w32, to_be_bytes}

abbrev word_bytes : ℕ → List ℕ
word_bytes n = to_be_bytes w32 n

-- the items of a gateway, where those of the lists are as long and spelled as they are in its value
pub gateway_fields : (k : ℕ) (v address : List ℕ) (a b d : ℕ) (n n' : ℕ) (p p' : List ℕ) (m m' : ℕ) (c c' : List ℕ) (l : ℕ)
    → word_bytes k ++ v ≡ address → n ≡ n' → p ≡ p' → m ≡ m' → c ≡ c'
    → word_bytes k ++ (v ++ (word_bytes a ++ (word_bytes b ++ (word_bytes d ++
    (word_bytes n ++ (p ++ (word_bytes m ++ (c ++ (word_bytes l ++ [])))))))))
    ≡ address ++ (word_bytes a ++ (word_bytes b ++ (word_bytes d ++
    ((word_bytes n' ++ p') ++ ((word_bytes m' ++ c') ++ (word_bytes l ++ []))))))
gateway_fields k v address a b d n n' p p' m m' c c' l e en ep em ec =
    parts (word_bytes k) v (word_bytes a) (word_bytes b) (word_bytes d) (word_bytes n) p (word_bytes m) c (word_bytes l)
    ∙ ap (λ (t : List ℕ). whole t n p m c) e
    ∙ ap (λ (x : ℕ). whole address x p m c) en
    ∙ ap (λ (t : List ℕ). whole address n' t m c) ep
    ∙ ap (λ (x : ℕ). whole address n' p' x c) em
    ∙ ap (λ (t : List ℕ). whole address n' p' m' t) ec
  where
    whole : List ℕ → ℕ → List ℕ → ℕ → List ℕ → List ℕ
    whole t x q y r = t ++ (word_bytes a ++ (word_bytes b ++ (word_bytes d ++
        ((word_bytes x ++ q) ++ ((word_bytes y ++ r) ++ (word_bytes l ++ []))))))

    parts : (k v a b d n p m c l : List ℕ)
        → k ++ (v ++ (a ++ (b ++ (d ++ (n ++ (p ++ (m ++ (c ++ (l ++ [])))))))))
        ≡ (k ++ v) ++ (a ++ (b ++ (d ++ ((n ++ p) ++ ((m ++ c) ++ (l ++ []))))))
    parts k v a b d n p m c l = simp append_assoc
