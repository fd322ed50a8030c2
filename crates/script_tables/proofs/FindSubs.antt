-- A sub-agent that is found in the tables.
use Rattle.std.proofs.Common.{◌≡◌, ◌∙◌, ◌+◌, ◌<◌, ◌==◌, ◌||◌, ◌++◌, ℕ, zero, suc, Bool, true, List, [], ◌∷◌, length, map, reverse, get_or, Option, Some, None, refl, ap, sym, arith, slice_get, option_map}
use Rattle.std.proofs.lemmas.Bool.{eq-eqb, eqb-true, or_right}
use Rattle.std.proofs.lemmas.List.{map-append}
use Rattle.std.proofs.lemmas.Option.{same_Some, slice_get-map}
use Rattle.script_spec.specs.Lines.{Line, MaxLine, SubLine, FlowLine, CounterLine, PacketLine, PollLine, SendLine, RestartLine, ResetLine, DeliverLine, SubAgent}
use Rattle.script_spec.specs.Agents.{AgentBoot, boots_of, subs_in}
use Rattle.script_spec.specs.Rules.{may_follow}
use Rattle.script_tables.specs.declared.rows.BootRow.{BootRow}
use Rattle.script_tables.specs.declared.rows.SubRow.{SubRow}
use Rattle.script_tables.specs.Tables.{BootCount, StandsAt, SubCount, TablesState, Tells, boot_count, boot_said, is_act_of, knows, last_time, newest, sub_count, sub_said}
use Rattle.script_tables.proofs.Follows.{poll_follows, restart_follows, send_follows}
use Rattle.script_tables.proofs.ListTests.{turned}

pub last_row : (xs : List BootRow) (i : ℕ) (b d : BootRow) → length xs ≡ i + 1 → b ≡ get_or xs i d
    → b.at ≡ last_time (map boot_said xs)
last_row [] i b d long is = absurd (omega (arith, long))
last_row (x ∷ []) zero b d long is = ap (λ (c : BootRow). c.at) is
last_row (x ∷ []) (suc i) b d long is = absurd (omega (arith, long))
last_row (x ∷ y ∷ more) zero b d long is = absurd (omega (arith, long))
last_row (x ∷ y ∷ more) (suc i) b d long is = last_row (y ∷ more) i b d (omega (arith, long)) is

last_end : (xs : List BootCount) (b : BootCount) → last_time (xs ++ b ∷ []) ≡ b.at
last_end [] b = refl
last_end (x ∷ []) b = refl
last_end (x ∷ y ∷ more) b = last_end (y ∷ more) b

last_newest : (lines : List Line) (s : SubAgent) (boots : List AgentBoot)
    → (newest boots).at ≡ last_time (map (boot_count lines s) (reverse boots))
last_newest lines s [] = refl
last_newest lines s (b ∷ earlier) =
    sym (ap last_time (ap (map (boot_count lines s)) (turned b earlier)
    ∙ map-append (boot_count lines s) (reverse earlier) (b ∷ []))
    ∙ last_end (map (boot_count lines s) (reverse earlier)) (boot_count lines s b))

known_at : (id : ℕ) (subs : List SubRow) (k : ℕ) (row : SubRow) → slice_get subs k ≡ Some row → row.id ≡ id
    → knows id subs ≡ true
known_at id [] k row there is = absurd cc
known_at id (x ∷ more) zero row there is =
    let same : x ≡ row = same_Some _ _ there in
    ap (λ (b : Bool). b || knows id more) (eq-eqb x.id id (ap (λ (r : SubRow). r.id) same ∙ is))
known_at id (x ∷ more) (suc k) row there is = or_right (x.id == id) (knows id more) (known_at id more k row there is)

module _ (t : TablesState) (lines : List Line) (tells : Tells t lines) where
  pub act_follows : (id : ℕ) (line : Line) → is_act_of id line ≡ true → knows id t.subs ≡ may_follow lines line
  act_follows id (PollLine owner now) e =
      ap (λ (n : ℕ). knows n t.subs) (sym (eqb-true owner id e)) ∙ poll_follows t lines tells owner now
  act_follows id (SendLine owner now) e =
      ap (λ (n : ℕ). knows n t.subs) (sym (eqb-true owner id e)) ∙ send_follows t lines tells owner now
  act_follows id (RestartLine owner at) e =
      ap (λ (n : ℕ). knows n t.subs) (sym (eqb-true owner id e)) ∙ restart_follows t lines tells owner at
  act_follows id (MaxLine n) e = absurd cc
  act_follows id (SubLine s) e = absurd cc
  act_follows id (FlowLine o f) e = absurd cc
  act_follows id (CounterLine o c) e = absurd cc
  act_follows id (PacketLine p k) e = absurd cc
  act_follows id (ResetLine s) e = absurd cc
  act_follows id (DeliverLine d) e = absurd cc

  counted_at : (row : SubRow) (o : Option SubAgent) (k id at : ℕ) → slice_get (reverse (subs_in lines)) k ≡ o
      → option_map (sub_count lines) o ≡ Some (sub_said row) → row.id ≡ id → at ≡ last_time (sub_said row).boots
      → StandsAt lines id k at
  counted_at row None k id at there says own time = absurd cc
  counted_at row (Some s) k id at there says own time =
      let same : sub_count lines s ≡ sub_said row = same_Some _ _ says in
      record {
        sub = s;
        there = there;
        own = ap (λ (c : SubCount). c.id) same ∙ own;
        at_is = last_newest lines s (boots_of lines s) ∙ ap (λ (c : SubCount). last_time c.boots) same ∙ sym time;
      }

  stands : (row : SubRow) (k id at : ℕ) → slice_get t.subs k ≡ Some row → row.id ≡ id → at ≡ last_time (sub_said row).boots
      → StandsAt lines id k at
  stands row k id at there own time =
      counted_at row (slice_get (reverse (subs_in lines)) k) k id at refl
      (sym (slice_get-map (sub_count lines) (reverse (subs_in lines)) k)
      ∙ ap (λ (cs : List SubCount). slice_get cs k) (sym tells.subs)
      ∙ slice_get-map sub_said t.subs k ∙ ap (option_map sub_said) there) own time

-- the row at a place
pub record RowAt (subs : List SubRow) (k id at : ℕ) : Type 0 where
  pub row : SubRow
  pub there : slice_get subs k ≡ Some row
  pub own : row.id ≡ id
  pub time : at ≡ last_time (sub_said row).boots

row_of : (subs : List SubRow) (k id at : ℕ) (o : Option SubRow) → slice_get subs k ≡ o → k < length subs
    → ((row : SubRow) → slice_get subs k ≡ Some row → row.id ≡ id)
    → ((row : SubRow) → slice_get subs k ≡ Some row → at ≡ last_time (sub_said row).boots) → RowAt subs k id at
row_of subs k id at None is within own time = absurd (past subs k is within)
  where
    past : (xs : List SubRow) (i : ℕ) → slice_get xs i ≡ None → i < length xs → ⊥
    past [] i e h = omega (arith, h)
    past (x ∷ more) zero e h = cc
    past (x ∷ more) (suc i) e h = past more i e (omega (arith, h))
row_of subs k id at (Some row) is within own time = record { row = row; there = is; own = own row is; time = time row is }

pub row_at : (subs : List SubRow) (k id at : ℕ) → k < length subs
    → ((row : SubRow) → slice_get subs k ≡ Some row → row.id ≡ id)
    → ((row : SubRow) → slice_get subs k ≡ Some row → at ≡ last_time (sub_said row).boots) → RowAt subs k id at
row_at subs k id at within own time = row_of subs k id at (slice_get subs k) refl within own time

pub found_acts : (t : TablesState) (lines : List Line) (id k at : ℕ) (line : Line) → RowAt t.subs k id at → Tells t lines
    → is_act_of id line ≡ true → true ≡ may_follow lines line
found_acts t lines id k at line r tells act =
    sym (known_at id t.subs k r.row r.there r.own) ∙ act_follows t lines tells id line act

pub found_stands : (t : TablesState) (lines : List Line) (id k at : ℕ) → RowAt t.subs k id at → Tells t lines
    → StandsAt lines id k at
found_stands t lines id k at r tells = stands t lines tells r.row k id at r.there r.own r.time

pub no_rows : (xs : List BootRow) → length xs ≡ 0 → 0 ≡ last_time (map boot_said xs)
no_rows [] e = refl
no_rows (x ∷ more) e = absurd (omega (arith, e))
