-- Rules of const traits.
use Rattle.std.proofs.Common.{◌≡◌, true, List, Option, Some, None, sym, ap, ◌∙◌}
use Rattle.std.specs.Prelude.{Result, Ok, Err, IfOk, if◌then◌else◌}
use Rattle.std.specs.Option.{option_map, option_and_then}
use Rattle.goal_terms.specs.Tree.{Tree}
use Rattle.goal_terms.specs.TreeOf.{tree_of_sig}
use Rattle.goal_terms.specs.declared.ids.TraitId.{TraitId}
use Rattle.goal_interner.specs.declared.term_nodes.OutOfMemory.{OutOfMemory}
use Rattle.goal_tables.specs.Rows.{lang_trait_of}
use Rattle.goal_terms.specs.declared.lang.LangItem.{LangItem}
use Rattle.goal_terms.specs.declared.lang.LangItem.TheVariants as lang
use Rattle.goal_tables.specs.declared.rows.ClosureRow.{ClosureRow}
use Rattle.goal_tables.specs.declared.rows.FnRow.{FnRow}
use Rattle.goal_tables.specs.declared.rows.Tables.{Tables}
use Rattle.goal_lists.specs.Builtins.{callable_sig, closure_sig, output_of, call_premises}
use Rattle.goal_lists.specs.ConstRules.{const_call, const_function, const_closure}
use Rattle.goal_lists.specs.Headers.{under}
use Rattle.goal_lists.specs.Interned.{const_rule_at}
use Rattle.goal_lists.specs.Premises.{TraitTree, ConstRule, traits_under}
use Rattle.goal_lists.specs.declared.candidates.interned.InternedConstRule.{InternedConstRule}

-- a rule that is made
pub rule-is : (T : List Tree) (r : Result (Option InternedConstRule) OutOfMemory) (a b : Option ConstRule) → a ≡ b →
    IfOk r (λ o. option_map (const_rule_at T) o ≡ a) → IfOk r (λ o. option_map (const_rule_at T) o ≡ b)
rule-is T (Ok o) a b e h = h ∙ e
rule-is T (Err x) a b e h = tt

-- a call, as far as it is known
abbrev with_sized : List Tree → List TraitTree → Tree → Tree → Option TraitId → Option ConstRule
with_sized args conditions sig output o = option_map (λ sized. record { premises = call_premises sized sig args output; conditions = conditions }) o

abbrev with_output : Tables → List Tree → List TraitTree → Tree → Option Tree → Option ConstRule
with_output t args conditions sig o = option_and_then (λ output. with_sized args conditions sig output (lang_trait_of t lang.Sized)) o

pub const-call-some : (t : Tables) (args : List Tree) (conditions : List TraitTree) (sig output : Tree) (sized : TraitId) → Some output ≡ output_of sig →
    Some sized ≡ lang_trait_of t lang.Sized → Some (record { premises = call_premises sized sig args output; conditions = conditions }) ≡ const_call t args conditions sig
const-call-some t args conditions sig output sized f g = ap (with_sized args conditions sig output) g ∙ ap (with_output t args conditions sig) f

pub const-call-same : (t : Tables) (a b : List Tree) (c d : List TraitTree) (s u : Tree) → a ≡ b → c ≡ d → s ≡ u → const_call t a c s ≡ const_call t b d u
const-call-same t a b c d s u e f g = ap (λ x. const_call t x c s) e ∙ ap (λ x. const_call t b x s) f ∙ ap (λ x. const_call t b d x) g

-- a const function and a const closure
pub const-function-some : (t : Tables) (own args : List Tree) (r : FnRow) (sig : Tree) → r.is_const ≡ true → Some sig ≡ callable_sig (under own (tree_of_sig r.sig)) →
    const_call t args (traits_under own r.const_conditions.items) sig ≡ const_function t own args r
const-function-some t own args r sig e f =
    ap (option_and_then (const_call t args (traits_under own r.const_conditions.items))) f
    ∙ sym (ap (λ b. if b then option_and_then (const_call t args (traits_under own r.const_conditions.items)) (callable_sig (under own (tree_of_sig r.sig))) else None) e)

pub const-closure-some : (t : Tables) (l : LangItem) (own args : List Tree) (r : ClosureRow) (sig : Tree) → r.is_const ≡ true → Some sig ≡ closure_sig l own r →
    const_call t args (traits_under own r.const_conditions.items) sig ≡ const_closure t l own args r
const-closure-some t l own args r sig e f =
    ap (option_and_then (const_call t args (traits_under own r.const_conditions.items))) f
    ∙ sym (ap (λ b. if b then option_and_then (const_call t args (traits_under own r.const_conditions.items)) (closure_sig l own r) else None) e)
