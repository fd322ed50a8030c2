-- The rules of a command as clap builds them.
use Rattle.std.proofs.Common.{◌≡◌, ◌∙◌, ◌<◌, ◌+◌, ℕ, Bool, true, false, not, ◌&&◌, ◌||◌, if◌then◌else◌, List, [], ◌∷◌, ◌++◌, Option, Some, None, length, take, get_or, map, refl, ap, ap₂, sym, arith}
use Rattle.std.specs.Prelude.{find, option_map, is_some, count_by}
use Rattle.std.specs.Option.{option_map_or}
use Rattle.std.specs.List.{list_all, list_any}
use Rattle.std.specs.Str.{bytes_eq}
use Rattle.std.proofs.lemmas.Grind.{common_steps}
use Rattle.std.proofs.lemmas.Slice.Eq.{bytes_eq-Decides}
use Rattle.clap.specs.Words.{Rule as ClapRule, new_rule, with_rule}
use Rattle.clap.specs.declared.builder.action.ArgAction.TheVariants.{Set, SetTrue}
use Rattle.clap.specs.Walk.{arg_by_id, arg_by_long, is_early_multiple}
use Rattle.clap.specs.Simple.{built, filled, filled_from, is_simple, on_top}
use Rattle.command_words.specs.declared.arguments.Argument.{Argument}
use Rattle.command_words.specs.declared.arguments.Form.{Form}
use Rattle.command_words.specs.declared.arguments.Form.TheVariants.{Flag, Optional, Required}
use Rattle.command_words.specs.Rules.{Text, Rule, has_option, has_flag, has_text, is_flag}
use Rattle.command_words.specs.Arguments.{rule_in, rules_in}
use Rattle.command_words.specs.Matching.{app_with, clap_rule, plain_app}

map_push : {X Y : Type 0} (f : X → Y) (xs : List X) (x : X) → map f (xs ++ x ∷ []) ≡ map f xs ++ f x ∷ []
map_push f [] x = refl
map_push f (y ∷ ys) x = ap (λ zs. f y ∷ zs) (map_push f ys x)

take_next : {X : Type 0} (xs : List X) (i : ℕ) (d : X) → i < length xs
    → take i xs ++ get_or xs i d ∷ [] ≡ take (i + 1) xs
take_next xs i d lt = grind (arith, common_steps)

pub app_with-push : (name : Text) (rules : List Rule) (rule : Rule)
    → with_rule (app_with name rules) (clap_rule rule) ≡ app_with name (rules ++ rule ∷ [])
app_with-push name rules rule = ap (λ rs. on_top (λ s. record s { rules = rs }) (plain_app name)) (sym (map_push clap_rule rules rule))

pub app_with-next : (name : Text) (arguments : List Argument) (i : ℕ) (d : Argument) → i < length arguments
    → with_rule (app_with name (rules_in (take i arguments))) (clap_rule (rule_in (get_or arguments i d))) ≡ app_with name (rules_in (take (i + 1) arguments))
app_with-next name arguments i d lt =
    app_with-push name (rules_in (take i arguments)) (rule_in (get_or arguments i d))
    ∙ ap (app_with name) (sym (map_push rule_in (take i arguments) (get_or arguments i d)) ∙ ap rules_in (take_next arguments i d lt))

-- ---- built

abbrev pub built_rule : Rule → ClapRule
built_rule rule = filled (clap_rule rule)

filled_from-rules : (i : ℕ) (rules : List Rule) → filled_from i (map clap_rule rules) ≡ map built_rule rules
filled_from-rules i [] = refl
filled_from-rules i (rule ∷ rules) = ap (λ rs. built_rule rule ∷ rs) (filled_from-rules i rules)

pub built_rules : (name : Text) (rules : List Rule) → (built (app_with name rules)).top.rules ≡ map built_rule rules
built_rules name rules = filled_from-rules 1 rules

-- an option and a flag, as clap has built them
abbrev pub option_rule : Text → Bool → ClapRule
option_rule name needed = filled (record (new_rule name) { long = Some name; action = Some Set; required = needed })

abbrev pub flag_rule : Text → ClapRule
flag_rule name = filled (record (new_rule name) { long = Some name; action = Some SetTrue })

or_false : (b : Bool) → (b || false) ≡ b
or_false true = refl
or_false false = refl

-- clap finds by a name what the rules have under it
module _ (name : Text) where
  found_rule : (b : Bool) (rule : Rule) (rest : Option Rule) (more : Option ClapRule) → (b ≡ true → rule.name ≡ name)
      → more ≡ option_map built_rule (option_map (λ r. record { name = name; form = r.form }) rest)
      → (if b then Some (built_rule rule) else more) ≡ option_map built_rule (option_map (λ r. record { name = name; form = r.form }) (if b then Some rule else rest))
  found_rule true rule rest more is same =
      ap (λ (n : Text). Some (built_rule (record { name = n; form = rule.form }))) (is refl)
  found_rule false rule rest more is same = same

  abbrev found_in : List Rule → Option ClapRule
  found_in rules =
      option_map built_rule (option_map (λ (r : Rule). record { name = name; form = r.form }) (find (λ r. bytes_eq r.name name) rules))

  by_id : (rules : List Rule) → arg_by_id (map built_rule rules) name ≡ found_in rules
  by_id [] = refl
  by_id (rule ∷ rules) =
      found_rule (bytes_eq rule.name name) rule _ _ ((bytes_eq-Decides rule.name name).0) (by_id rules)

  by_long : (rules : List Rule) → arg_by_long (map built_rule rules) name ≡ found_in rules
  by_long [] = refl
  by_long (rule ∷ rules) =
      ap (λ b. if b then Some (built_rule rule) else arg_by_long (map built_rule rules) name) (or_false (bytes_eq rule.name name))
      ∙ found_rule (bytes_eq rule.name name) rule _ _ ((bytes_eq-Decides rule.name name).0) (by_long rules)

  -- an option of the command is an option of clap's by both of its names
  pub record IsOption (rules : List ClapRule) (needed : Bool) : Type 0 where
    pub long : arg_by_long rules name ≡ Some (option_rule name needed)
    pub id : arg_by_id rules name ≡ Some (option_rule name needed)

  option_found : (o : Option Rule) → option_map_or has_text (option_map (λ r. r.form) o) false ≡ true
      → (needed : Bool) × (option_map built_rule (option_map (λ (r : Rule). record { name = name; form = r.form }) o) ≡ Some (option_rule name needed))
  option_found None e = cc
  option_found (Some rule) e = go rule.form e
    where
      go : (form : Form) → has_text form ≡ true
          → (needed : Bool) × (Some (built_rule (record { name = name; form = form })) ≡ Some (option_rule name needed))
      go Flag e = cc
      go Optional e = (false, refl)
      go Required e = (true, refl)

  flag_found : (o : Option Rule) → option_map_or is_flag (option_map (λ r. r.form) o) false ≡ true
      → option_map built_rule (option_map (λ (r : Rule). record { name = name; form = r.form }) o) ≡ Some (flag_rule name)
  flag_found None e = cc
  flag_found (Some rule) e = go rule.form e
    where
      go : (form : Form) → is_flag form ≡ true
          → Some (built_rule (record { name = name; form = form })) ≡ Some (flag_rule name)
      go Flag e = refl
      go Optional e = cc
      go Required e = cc

  pub is_option : (rules : List Rule) → has_option rules name ≡ true
      → (needed : Bool) × IsOption (map built_rule rules) needed
  is_option rules has =
      let found = option_found (find (λ r. bytes_eq r.name name) rules) has in
      (found.0, record { long = by_long rules ∙ found.1; id = by_id rules ∙ found.1 })

  pub is_flag_rule : (rules : List Rule) → has_flag rules name ≡ true
      → arg_by_long (map built_rule rules) name ≡ Some (flag_rule name)
  is_flag_rule rules has = by_long rules ∙ flag_found (find (λ r. bytes_eq r.name name) rules) has

-- ---- the command is simple

pub each_rule : {X : Type 0} (p : ClapRule → Bool) (f : X → ClapRule) → ((x : X) → p (f x) ≡ true) → (xs : List X)
    → list_all p (map f xs) ≡ true
each_rule p f each [] = refl
each_rule p f each (x ∷ xs) = ap₂ (λ a b. a && b) (each x) (each_rule p f each xs)

no_rule : {X : Type 0} (p : ClapRule → Bool) (f : X → ClapRule) → ((x : X) → p (f x) ≡ false) → (xs : List X)
    → list_any p (map f xs) ≡ false
no_rule p f none [] = refl
no_rule p f none (x ∷ xs) = ap₂ (λ a b. a || b) (none x) (no_rule p f none xs)

pub simple_app : (name : Text) (rules : List Rule) → is_simple (app_with name rules) ≡ true
simple_app name rules =
    let n = count_by (λ (a : ClapRule). is_some a.index) (built (app_with name rules)).top.rules in
    ap₂ (λ b rs. (b && true) && ((list_all (λ a. a.is_simple) rs && not (list_any (is_early_multiple n) rs)) && true))
    (each_rule (λ a. a.is_simple) clap_rule (λ _. refl) rules) (built_rules name rules)
    ∙ ap₂ (λ a b. (a && not b) && true)
    (each_rule (λ a. a.is_simple) built_rule (λ _. refl) rules) (no_rule (is_early_multiple n) built_rule (λ _. refl) rules)
