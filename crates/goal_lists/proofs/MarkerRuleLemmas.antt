-- Rules that go by the constructor alone.
use Rattle.std.proofs.Common.{◌≡◌, ℕ, Bool, false, List, [], Option, Some, None, refl}
use Rattle.std.specs.Option.{option_map, option_and_then}
use Rattle.goal_terms.specs.Erased.{erased_head}
use Rattle.goal_terms.specs.Tree.{Tree, Trees, node}
use Rattle.goal_terms.specs.declared.heads.Head.{Head}
use Rattle.goal_terms.specs.declared.heads.Head.TheVariants as head
use Rattle.goal_terms.specs.declared.ids.AdtId.{AdtId}
use Rattle.goal_tables.specs.declared.rows.AdtRow.{AdtRow}
use Rattle.goal_tables.specs.declared.rows.Tables.{Tables}
use Rattle.goal_lists.specs.Builtins.{is_fn_ptr, is_tuple, field_of}
use Rattle.goal_lists.specs.Premises.{Premise}

-- no pointer to a function, and no tuple
pub no-pointer : (h : Head) (ts : Trees) → ((b n : ℕ) (q : Bool) → h ≡ head.FnPtr b n q → ⊥) → false ≡ is_fn_ptr (node (erased_head h) ts)
no-pointer (head.FnPtr b n q) ts never = absurd (never b n q refl)
no-pointer h ts never = refl

pub no-tuple : (h : Head) (ts : Trees) → ((n : ℕ) → h ≡ head.Tuple n → ⊥) → false ≡ is_tuple (node (erased_head h) ts)
no-tuple (head.Tuple n) ts never = absurd (never n refl)
no-tuple h ts never = refl

-- no premises where an ADT has field information
abbrev pub with_info : AdtRow → Option (List Premise)
with_info r = option_map (λ f. []) r.field_info

-- the same of a type
abbrev pub with_field : Tables → Tree → Option (List Premise)
with_field t u = option_and_then (λ p. with_info p.1) (field_of t u)

pub field-adt : (o : Option AdtRow) (us : List Tree) → option_and_then with_info o ≡ option_and_then (λ p. with_info p.1) (option_map {U = List Tree × AdtRow} (λ r. (us, r)) o)
field-adt None us = refl
field-adt (Some r) us = refl

pub no-field : (t : Tables) (h : Head) (ts : Trees) → ((a : AdtId) (n : ℕ) → h ≡ head.Adt a n → ⊥) → None ≡ with_field t (node (erased_head h) ts)
no-field t (head.Adt a n) ts never = absurd (never a n refl)
no-field t h ts never = refl
