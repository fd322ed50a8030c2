-- The count of samples stands where it is looked for.
use Rattle.std.proofs.Common.{◌≡◌, ◌∙◌, ℕ, ◌+◌, ◌<◌, ◌≤◌, Bool, cond, List, [], ◌∷◌, ◌++◌, length, suc, take, drop, refl, ap, arith}
use Rattle.std.specs.Prelude.{◌%◌, ◌^◌, replicate}
use Rattle.std.proofs.lemmas.List.{length-append, length-replicate}
use Rattle.std.specs.Int.{w32, to_be_bytes, from_be_bytes}
use Rattle.std.proofs.lemmas.Bool.{le-ltb}
use Rattle.std.proofs.lemmas.Nat.{from_be_bytes-to_be_bytes_4}
use Rattle.wire_spec.specs.Shapes.{count_of}
use Rattle.wire_spec.specs.Padding.{padding_of}
use Rattle.wire_spec.specs.Spelling.{padded, spell_all}
use Rattle.wire_spec.specs.Heads.{AgentAddress, unknown, ipv4, ipv6}
use Rattle.agent_spec.specs.Samples.{Sample, Datagram}
use Rattle.agent_spec.specs.Spelled.{Form, Sender, sample_trees, sent_bytes}
use Rattle.true_samples.specs.Words.{word_in, address_size, count_at, HasAddress, count_in}

trees-are : (form : Form) (samples : List Sample) → count_of (sample_trees form samples) ≡ length samples
trees-are form [] = refl
trees-are form (s ∷ more) = ap suc (trees-are form more)

-- it stands at this place
stands-at : (bytes : List ℕ) (place n : ℕ) → 20 + address_size (word_in bytes 4) ≡ place → 8 ≤ length bytes
    → place + 4 ≤ length bytes → word_in bytes place ≡ n → count_in bytes ≡ n
stands-at bytes place n at front whole is =
    ap (λ (b : Bool). cond b 0 (count_at bytes (20 + address_size (word_in bytes 4)))) (le-ltb (length bytes) 8 front)
    ∙ ap (count_at bytes) at
    ∙ ap (λ (b : Bool). cond b 0 (word_in bytes place)) (le-ltb (length bytes) (place + 4) whole) ∙ is

counted : (form : Form) (samples : List Sample) → length samples < 4294967296
    → from_be_bytes w32 (to_be_bytes w32 (count_of (sample_trees form samples))) ≡ length samples
counted form samples few =
    ap (λ (n : ℕ). from_be_bytes w32 (to_be_bytes w32 n)) (trees-are form samples)
    ∙ from_be_bytes-to_be_bytes_4 (length samples) few

abbrev sender_at : AgentAddress → ℕ → Form → ℕ → Sender
sender_at agent sub_agent form max = record { agent = agent; sub_agent = sub_agent; form = form; max_datagram = max }

drop-behind : (xs ys : List ℕ) (n k : ℕ) → length xs ≡ n → drop (n + k) (xs ++ ys) ≡ drop k ys
drop-behind [] ys n k e = let none : n + k ≡ k = omega (arith, e) in ap (λ (m : ℕ). drop m ys) none
drop-behind (x ∷ xs) ys n k e =
    let next : n + k ≡ suc (length xs + k) = omega (arith, e) in
    ap (λ (m : ℕ). drop m (x ∷ xs ++ ys)) next ∙ drop-behind xs ys (length xs) k refl

-- so many bytes of an address that are a multiple of four take no padding
padded-length : (v : List ℕ) (n : ℕ) → length v ≡ n → padding_of n ≡ 0 → length (padded v) ≡ n
padded-length v n e none =
    let more : padding_of (length v) ≡ 0 = ap padding_of e ∙ none in
    let zero : ℕ = 0 in
    omega (arith, length-append v (replicate (padding_of (length v)) zero), length-replicate (padding_of (length v)) zero, e, more)

-- what stands behind the address
abbrev behind : ℕ → Form → Datagram → List ℕ
behind sub_agent form d = to_be_bytes w32 sub_agent ++ (to_be_bytes w32 (d.number % 2 ^ 32) ++ (to_be_bytes w32 d.uptime
    ++ ((to_be_bytes w32 (count_of (sample_trees form d.samples)) ++ spell_all (sample_trees form d.samples)) ++ [])))

with-agent : (agent : AgentAddress) (sub_agent max : ℕ) (form : Form) (d : Datagram) → HasAddress agent
    → length d.samples < 4294967296 → count_in (sent_bytes (sender_at agent sub_agent form max) d) ≡ length d.samples
with-agent unknown sub_agent max form d h few =
    stands-at (sent_bytes (sender_at unknown sub_agent form max) d) 20 (length d.samples) refl (omega arith) (omega arith)
    (counted form d.samples few)
with-agent (ipv4 v) sub_agent max form d h few =
    let size : length (padded v) ≡ 4 = padded-length v 4 h refl in
    let whole = length-append (padded v) (behind sub_agent form d) in
    stands-at (sent_bytes (sender_at (ipv4 v) sub_agent form max) d) 24 (length d.samples) refl (omega arith)
    (omega (arith, size, whole))
    (ap (λ (l : List ℕ). from_be_bytes w32 (take 4 l)) (drop-behind (padded v) (behind sub_agent form d) 4 12 size)
    ∙ counted form d.samples few)
with-agent (ipv6 v) sub_agent max form d h few =
    let size : length (padded v) ≡ 16 = padded-length v 16 h refl in
    let whole = length-append (padded v) (behind sub_agent form d) in
    stands-at (sent_bytes (sender_at (ipv6 v) sub_agent form max) d) 36 (length d.samples) refl (omega arith)
    (omega (arith, size, whole))
    (ap (λ (l : List ℕ). from_be_bytes w32 (take 4 l)) (drop-behind (padded v) (behind sub_agent form d) 16 12 size)
    ∙ counted form d.samples few)

pub count-is : (sender : Sender) (d : Datagram) → HasAddress sender.agent → length d.samples < 4294967296
    → count_in (sent_bytes sender d) ≡ length d.samples
count-is sender d h few = with-agent sender.agent sender.sub_agent sender.max_datagram sender.form d h few
