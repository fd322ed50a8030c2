-- A set-up that breaks no rule.
use Rattle.std.proofs.Common.{◌≡◌, ℕ, Bool, true, false, cond, refl}
use Rattle.std.specs.Prelude.{◌==◌, ◌&&◌, ◌||◌, nat_lt}
use Rattle.std.specs.declared.option.Option.{Option}
use Rattle.std.specs.declared.option.Option.TheVariants.{Some, None}
use Rattle.std.proofs.lemmas.Bool.{true≢false}
use Rattle.data_format.specs.declared.heads.Form.{Form}
use Rattle.agent_setups.specs.declared.setup.Setup.{Setup}
use Rattle.agent_setups.specs.Ids.{has_twice, has_great_class, has_great_index}
use Rattle.agent_setups.specs.Faults.{sampled_ids, polled_ids, has_zero_rate, has_zero_time, is_compact, setup_fault}

passes : (b : Bool) (n : ℕ) (rest : Option ℕ) → cond b (Some n) rest ≡ None → (b ≡ false) × (rest ≡ None)
passes true n rest e = absurd cc
passes false n rest e = (refl, e)

-- it breaks none of the rules
pub record BreaksNone (form : Form) (s : Setup) : Type 0 where
  pub size : (nat_lt s.max_datagram 64 || nat_lt 65535 s.max_datagram) ≡ false
  pub stage : ((s.stage == 0) || nat_lt 1024 s.stage) ≡ false
  pub twice : (has_twice (sampled_ids s.flows.items) || has_twice (polled_ids s.counters.items)) ≡ false
  pub zero_time : (has_zero_rate s.flows.items || has_zero_time s.counters.items) ≡ false
  pub classes : (has_great_class (sampled_ids s.flows.items) || has_great_class (polled_ids s.counters.items)) ≡ false
  pub indexes : (is_compact form && (has_great_index (sampled_ids s.flows.items) || has_great_index (polled_ids s.counters.items))) ≡ false

pub breaks-none : (form : Form) (s : Setup) → setup_fault form s ≡ None → BreaksNone form s
breaks-none form s e =
    let one = passes _ 1 _ e in
    let two = passes _ 2 _ one.1 in
    let three = passes _ 3 _ two.1 in
    let four = passes _ 4 _ three.1 in
    let five = passes _ 5 _ four.1 in
    let six = passes _ 6 _ five.1 in
    let seven = passes _ 7 _ six.1 in
    record {
      size = one.0;
      stage = two.0;
      twice = four.0;
      zero_time = five.0;
      classes = six.0;
      indexes = seven.0;
    }

pub indexes-fit : (a b c : Bool) → (a && (b || c)) ≡ false → ((a && b) ≡ false) × ((a && c) ≡ false)
indexes-fit false b c e = (refl, refl)
indexes-fit true true c e = absurd (true≢false e)
indexes-fit true false c e = (refl, e)
