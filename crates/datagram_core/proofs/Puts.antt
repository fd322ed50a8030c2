-- Pieces that are written one after the other.
use Rattle.std.proofs.Common.{◌≡◌, ℕ, ◌≤◌, List, ◌++◌, length, take, drop, Result, ap, subst, ◌∙◌}
use Rattle.xdr_words.specs.declared.writer.Out.{Out}
use Rattle.xdr_words.specs.declared.writer.OutFull.{OutFull}
use Rattle.xdr_words.specs.Written.{behind, room_left, Appends, Puts}
use Rattle.xdr_words.proofs.Puts.{both_appended, last_put}

-- three that were written, and the last one, where all of them fit
pub last_of_four : (a b c d e : Out) (x y z v : List ℕ) (r : Result Unit OutFull)
    → Appends a b x → Appends b c y → Appends c d z → Puts d e r v
    → length (x ++ y ++ z ++ v) ≤ room_left a → Puts a e r (x ++ y ++ z ++ v)
last_of_four a b c d e x y z v r one two three four fits =
    last_put a d e (x ++ y ++ z) v r (both_appended a c d (x ++ y) z (both_appended a b c x y one two) three) four fits

-- the bytes of a room behind a piece that was put there
pub behind_kept : (room : List ℕ) (n : ℕ) (a b : Out) (piece : List ℕ) → a.room.now ≡ room → Appends a b piece → n ≡ b.len
    → drop n b.room.now ≡ drop n room
behind_kept room n a b piece same p is = rw is (p.behind ∙ ap (λ (l : List ℕ). drop b.len l) same)

-- and behind what is written, where bytes of that were replaced
pub behind_patched : (room : List ℕ) (n : ℕ) (a b : Out) → a.room.now ≡ room → a.len ≡ n → b.len ≡ a.len
    → behind b ≡ behind a → drop n b.room.now ≡ drop n room
behind_patched room n a b same len kept e =
    let P : ℕ → Type 0 = λ k. drop k b.room.now ≡ drop n room in
    subst P (kept ∙ len)
    (e ∙ ap (λ (l : List ℕ). drop a.len l) same ∙ ap (λ (k : ℕ). drop k room) len)

-- a piece at the start of a room
pub stands_in_front : (n : ℕ) (a b : Out) (piece : List ℕ) → a.len ≡ 0 → Appends a b piece → n ≡ b.len
    → take n b.room.now ≡ piece
stands_in_front n a b piece start p is =
    rw is (p.whole ∙ ap (λ (k : ℕ). take k a.room.now ++ piece) start)
