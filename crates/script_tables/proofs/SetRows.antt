-- Rows that are set anew.
use Rattle.std.proofs.Common.{◌≡◌, ◌∙◌, ◌+◌, ◌<◌, ℕ, zero, suc, List, [], ◌∷◌, length, map, set, get_or, Option, Some, None, Result, Ok, Err, OnOk, refl, ap, sym, arith, slice_get, option_map}
use Rattle.std.proofs.lemmas.List.{map-set}
use Rattle.std.proofs.lemmas.Option.{same_Some, slice_get-map, slice_get-get_or}
use Rattle.script_tables.specs.declared.rows.BootRow.{BootRow}
use Rattle.script_tables.specs.declared.rows.SubRow.{SubRow}
use Rattle.script_tables.specs.Tables.{SubCount, boot_said, sub_said, last_sent, IsSetAt}

pub on_ok : {T E P Q : Type 0} → (r : Result T E) → (P → Q) → OnOk r P → OnOk r Q
on_ok (Ok x) f h = f h
on_ok (Err e) f h = h

pub at_place : (with : SubCount → SubCount) (xs : List SubRow) (i : ℕ) (d y : SubRow) → i < length xs
    → sub_said y ≡ with (sub_said (get_or xs i d)) → IsSetAt with i xs (set xs i y)
at_place with xs i d y within says = record {
  count = sub_said (get_or xs i d);
  there = slice_get-map sub_said xs i ∙ ap (option_map sub_said) (slice_get-get_or xs i d within);
  made = map-set sub_said xs i y ∙ ap (λ (c : SubCount). set (map sub_said xs) i c) says;
}

pub last_at : (sent : ℕ) (xs : List BootRow) (i : ℕ) (b d : BootRow) → length xs ≡ i + 1 → b ≡ get_or xs i d
    → map boot_said (set xs i (record { at = b.at; sent = sent })) ≡ last_sent sent (map boot_said xs)
last_at sent [] i b d long is = absurd (omega (arith, long))
last_at sent (x ∷ []) zero b d long is = ap (λ (c : BootRow). record { at = c.at; sent = sent } ∷ []) is
last_at sent (x ∷ []) (suc i) b d long is = absurd (omega (arith, long))
last_at sent (x ∷ y ∷ more) zero b d long is = absurd (omega (arith, long))
last_at sent (x ∷ y ∷ more) (suc i) b d long is =
    ap (λ cs. boot_said x ∷ cs) (last_at sent (y ∷ more) i b d (omega (arith, long)) is)

pub found_id : (id : ℕ) (subs : List SubRow) (k : ℕ) (c : SubCount) → slice_get (map sub_said subs) k ≡ Some c
    → ((row : SubRow) → slice_get subs k ≡ Some row → row.id ≡ id) → c.id ≡ id
found_id id subs k c there here = go (slice_get subs k) refl (sym (slice_get-map sub_said subs k) ∙ there)
  where
    go : (o : Option SubRow) → slice_get subs k ≡ o → option_map sub_said o ≡ Some c → c.id ≡ id
    go None is e = absurd cc
    go (Some row) is e = sym (ap (λ (x : SubCount). x.id) (same_Some _ _ e)) ∙ here row is
