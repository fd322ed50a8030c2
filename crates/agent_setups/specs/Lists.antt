-- The set-ups of the sub-agents of one device, and what is wrong with them.
use Rattle.std.specs.Prelude.{ℕ, nat_lt, Bool, true, false, ◌==◌, ◌&&◌, ◌||◌, cond, List, [], ◌∷◌, length}
use Rattle.std.specs.List.{list_any}
use Rattle.std.specs.Str.{bytes_eq}
use Rattle.std.specs.declared.option.Option.{Option}
use Rattle.std.specs.declared.option.Option.TheVariants.{Some, None}
use Rattle.data_format.specs.declared.address.Address.{Address}
use Rattle.data_format.specs.declared.address.Address.TheVariants as addresses
use Rattle.data_format.specs.declared.source.SourceId.{SourceId}
use Rattle.data_format.specs.declared.heads.Form.{Form}
use Rattle.data_format.specs.declared.heads.Form.TheVariants.{Compact, Expanded}
use Rattle.agent_setups.specs.declared.setup.FlowSetup.{FlowSetup}
use Rattle.agent_setups.specs.declared.setup.CounterSetup.{CounterSetup}
use Rattle.agent_setups.specs.declared.setup.Setup.{Setup}
use Rattle.agent_setups.specs.Ids.{is_among, has_great_index}
use Rattle.agent_setups.specs.Faults.{sampled_ids, polled_ids, setup_fault}

-- some source has an index of 2^24 or more
abbrev pub needs_words : Setup → Bool
needs_words s = has_great_index (sampled_ids s.flows.items) || has_great_index (polled_ids s.counters.items)

-- the form of all samples
abbrev pub form_for : List Setup → Form
form_for setups = cond (list_any needs_words setups) Expanded Compact

abbrev pub same_address : Address → Address → Bool
same_address addresses.Unknown addresses.Unknown = true
same_address addresses.Unknown (addresses.V4 ys) = false
same_address addresses.Unknown (addresses.V6 ys) = false
same_address (addresses.V4 xs) addresses.Unknown = false
same_address (addresses.V4 xs) (addresses.V4 ys) = bytes_eq xs ys
same_address (addresses.V4 xs) (addresses.V6 ys) = false
same_address (addresses.V6 xs) addresses.Unknown = false
same_address (addresses.V6 xs) (addresses.V4 ys) = false
same_address (addresses.V6 xs) (addresses.V6 ys) = bytes_eq xs ys

-- both have one address and one number
abbrev pub has_same_name : Setup → Setup → Bool
has_same_name s t = same_address s.agent t.agent && (s.sub_agent == t.sub_agent)

-- the source stands in the set-up, of whatever kind
abbrev pub has_source : SourceId → Setup → Bool
has_source id s = is_among id (sampled_ids s.flows.items) || is_among id (polled_ids s.counters.items)

-- some source stands in both
abbrev pub shares_source : Setup → Setup → Bool
shares_source s t =
    list_any (λ (f : FlowSetup). has_source f.source t) s.flows.items
    || list_any (λ (c : CounterSetup). has_source c.source t) s.counters.items

-- two of them are so to each other
abbrev pub some_two : (Setup → Setup → Bool) → List Setup → Bool
some_two so [] = false
some_two so (s ∷ more) = list_any (so s) more || some_two so more

-- the number of the first rule that they break together: 8 there are none, or more than 64; 9 two have one name;
-- 10 a source stands in two
abbrev pub list_fault : List Setup → Option ℕ
list_fault setups =
    cond ((length setups == 0) || nat_lt 64 (length setups)) (Some 8)
    (cond (some_two has_same_name setups) (Some 9)
    (cond (some_two shares_source setups) (Some 10)
    None))

-- the number of the first rule that the first of them breaks which breaks one
abbrev pub first_or : Option ℕ → Option ℕ → Option ℕ
first_or None other = other
first_or (Some n) other = Some n

abbrev pub first_fault : Form → List Setup → Option ℕ
first_fault form [] = None
first_fault form (s ∷ more) = first_or (setup_fault form s) (first_fault form more)

abbrev pub device_fault : List Setup → Option ℕ
device_fault setups = first_or (first_fault (form_for setups) setups) (list_fault setups)
