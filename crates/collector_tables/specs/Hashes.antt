-- What a hash takes of a stream and of a source: whole words of eight bytes, as few as there may be.
use Rattle.std.specs.Prelude.{◌≡◌, ℕ, ◌+◌, ◌*◌, ◌%◌, ◌^◌, ◌++◌, ◌&&◌, ◌==◌, [], nat_le, if◌then◌else◌, IsTrue}
use Rattle.std.specs.Cmp.{first_so, second_so, unsigned_Decides}
use Rattle.std.specs.Cmp.Lexicographic.{pointwise_decides}
use Rattle.std.specs.Hash.{HashWrites, u64, u128}
use Rattle.std.specs.Int.{w32, w128, from_be_bytes}
use Rattle.std.proofs.Common.{refl, ap}
use Rattle.data_format.specs.declared.address.Address.{Address}
use Rattle.data_format.specs.declared.address.Address.TheVariants.{Unknown, V4, V6}
use Rattle.data_format.specs.contracts.address.AddressPartialEq.TheImpl as addresses
use Rattle.data_format.specs.declared.source.SourceId.{SourceId}
use Rattle.collector_tables.specs.declared.keys.StreamKey.{StreamKey}
use Rattle.collector_tables.specs.declared.keys.SampleKind.{SampleKind}
use Rattle.collector_tables.specs.Kinds.{is_flow_kind}

-- the sub-agent, and the address
abbrev pub stream_words : Address → ℕ → HashWrites
stream_words Unknown n = u64 (n * 2 ^ 32)
stream_words (V4 xs) n = u64 (n * 2 ^ 32 + from_be_bytes w32 xs)
stream_words (V6 xs) n = u64 (n * 2 ^ 32) ++ u128 (from_be_bytes w128 xs)

-- the place of the stream, the kind, the index and a small class in one word, and a greater class in one of its own
abbrev pub source_words : ℕ → SampleKind → SourceId → HashWrites
source_words stream kind source =
    u64 (((stream % 2 ^ 20 * 2 + (if is_flow_kind kind then 1 else 0)) * 2 ^ 11 + source.class % 2 ^ 11) * 2 ^ 32 + source.index)
    ++ (if nat_le (2 ^ 11) source.class then u64 source.class else [])

-- ---- streams that are found equal have the same words

same_address : (x y : Address) → IsTrue ((addresses.eq-value).it x y) → x ≡ y
same_address Unknown Unknown h = refl
same_address Unknown (V4 ys) h = absurd cc
same_address Unknown (V6 ys) h = absurd cc
same_address (V4 xs) Unknown h = absurd cc
same_address (V4 xs) (V4 ys) h = ap V4 ((pointwise_decides unsigned_Decides xs ys).0 h)
same_address (V4 xs) (V6 ys) h = absurd cc
same_address (V6 xs) Unknown h = absurd cc
same_address (V6 xs) (V4 ys) h = absurd cc
same_address (V6 xs) (V6 ys) h = ap V6 ((pointwise_decides unsigned_Decides xs ys).0 h)

pub same_words : (x y : StreamKey)
    → IsTrue ((addresses.eq-value).it x.agent y.agent && (x.sub_agent == y.sub_agent))
    → stream_words x.agent x.sub_agent ≡ stream_words y.agent y.sub_agent
same_words x y h =
    let agents = same_address x.agent y.agent (first_so ((addresses.eq-value).it x.agent y.agent) (x.sub_agent == y.sub_agent) h) in
    let sub_agents = (unsigned_Decides x.sub_agent y.sub_agent).0
    (second_so ((addresses.eq-value).it x.agent y.agent) (x.sub_agent == y.sub_agent) h) in
    λ i. stream_words (agents i) (sub_agents i)
