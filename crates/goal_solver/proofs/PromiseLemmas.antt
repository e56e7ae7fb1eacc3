-- What the calls that answer goals promise follows from what their bodies answer.
use Rattle.std.proofs.Common.{◌≡◌, ◌≢◌, ℕ, true, false, Bool, List, [], ◌∷◌, length, Option, Some, None, Result, Ok, Err, refl, sym, ap, subst, inl, inr, ◌⊎◌, suc, arith, ◌∙◌}
use Rattle.std.specs.Prelude.{IfOk, IfSome}
use Rattle.goal_terms.specs.NodeTests.{general_variable_at}
use Rattle.goal_terms.specs.PredicateTrees.{PredicateTree, holds, holds_const}
use Rattle.goal_terms.specs.Tree.{Tree, node_of}
use Rattle.goal_terms.specs.TreeOf.{tree_of_term}
use Rattle.goal_terms.specs.declared.answers.Certainty.{Certainty}
use Rattle.goal_terms.specs.declared.answers.Certainty.TheVariants as certainty
use Rattle.goal_terms.specs.declared.answers.Response.{Response}
use Rattle.goal_terms.specs.declared.answers.TraitGoalProvenVia.{TraitGoalProvenVia}
use Rattle.goal_terms.specs.declared.heads.Node.{Node}
use Rattle.goal_terms.specs.declared.heads.Node.TheVariants as nodes
use Rattle.goal_terms.specs.declared.heads.Variable.TheVariants as variables
use Rattle.goal_terms.specs.declared.ids.TraitId.{TraitId}
use Rattle.goal_terms.specs.declared.modes.TypingMode.{TypingMode}
use Rattle.goal_terms.specs.declared.predicates.BoundConstness.{BoundConstness}
use Rattle.goal_terms.specs.declared.predicates.BoundConstness.TheVariants as constness
use Rattle.goal_terms.specs.declared.predicates.Clause.{Clause}
use Rattle.goal_terms.specs.declared.predicates.HostEffectPredicate.{HostEffectPredicate}
use Rattle.goal_terms.specs.declared.predicates.NormalizesTo.{NormalizesTo}
use Rattle.goal_terms.specs.declared.predicates.ProjectionPredicate.{ProjectionPredicate}
use Rattle.goal_terms.specs.declared.terms.AliasTerm.{AliasTerm}
use Rattle.goal_terms.specs.declared.terms.AliasTermKind.{AliasTermKind}
use Rattle.goal_terms.specs.declared.terms.InferTy.TheVariants as infer
use Rattle.goal_terms.specs.declared.terms.Term.{Term}
use Rattle.goal_tables.specs.declared.rows.Tables.{Tables}
use Rattle.goal_lists.specs.Answers.{Question, whether, which_term, yes, no, maybe, IsAnswer, setting_of}
use Rattle.goal_lists.specs.Laws.{IsWithin}
use Rattle.goal_lists.specs.Level.{Level}
use Rattle.goal_lists.specs.Levels.{level}
use Rattle.goal_lists.specs.Premises.{TraitTree, ClauseHolds, ClauseRefuted}
use Rattle.goal_kinds.specs.declared.faults.Fault.{Fault}
use Rattle.goal_kinds.specs.declared.faults.Fault.TheVariants as fault
use Rattle.goal_kinds.specs.declared.goal_kind.MergeRule.{MergeRule}
use Rattle.goal_kinds.specs.declared.goal_kind.MergeRule.TheVariants as merge
use Rattle.goal_lists.specs.Settings.{Setting}
use Rattle.goal_lists.proofs.AnswerLaws.{answer-within, answers-agree, const-agrees, const-plain}
use Rattle.goal_lists.proofs.WithinLevels.{within-level}
use Rattle.goal_eval.specs.ErasedArgs.{erased_args}
use Rattle.goal_solver.specs.Answers.{IsOwed, level_over, IsMaybe, IsOpen, IsUndecided, IsTraitResponse, IsTraitAnswer, IsHoldingResponse, IsPredicateAnswer, IsAliasResponse, IsAliasAnswer, AnswersAside, IsQuiet, ListsNothing, expected_variable, IsAliasOpen}
use Rattle.goal_solver.specs.Assembled.{level_above}
use Rattle.goal_solver.specs.FreeVariables.{general_variable, lacks_free_variable}
use Rattle.goal_solver.specs.Goals.{IsAcceptedNormalization}
use Rattle.goal_solver.specs.Promises.{whether_answered, said_of_whether, term_answered, said_of_term, listed_term, if_decided, decided_in, IsYes, LeavesUndecided, ChangesLifetimes, AnswersPredicate, NamesClass, NamesNoClass, AnswersTrait, AnswersProjection, AnswersHostEffect, ListsTerm, GivesTermAlone, AnswersAlias, NoTwoDisagree, equation_asked, const_asked, term_asked, Through, given_through, asked_through, through_level, IsProven, AnswersThrough}
use Rattle.goal_solver.specs.State.{State, kinds_of}
use Rattle.goal_solver.specs.declared.eval.goals.GoalFault.TheVariants.{ExpectedTermNotFree}

-- what lists nothing names no class
pub nothing-named : (r : Result Response Fault) → ListsNothing r → IfOk r NamesNoClass
nothing-named (Ok x) h = h.0
nothing-named (Err f) h = tt

pub unnamed-maybe : (r : Result Response Fault) → IfOk r NamesNoClass → IfOk r (λ x. x.certainty ≡ certainty.Maybe → x.proven_via ≡ None)
unnamed-maybe (Ok x) h = λ e. h
unnamed-maybe (Err f) h = tt

pub empty-maybe : (r : Result Response Fault) → IfOk r (λ x. x.var_values.items ≡ []) → IfOk r (λ x. x.certainty ≡ certainty.Maybe → x.var_values.items ≡ [])
empty-maybe (Ok x) h = λ e. h
empty-maybe (Err f) h = tt

-- what is answered of a predicate is right at the level
certain-right : (L : Level) (p : PredicateTree) (x : Certainty) → IsHoldingResponse L p x → (x ≡ certainty.Maybe → IsUndecided L p) → IsAnswer L (whether p) (said_of_whether x)
unfolding IsAnswer
certain-right L p certainty.Yes h u = h
certain-right L p certainty.Maybe h u = u refl

pub whether-right : (L : Level) (p : PredicateTree) (r : Result Response Fault) → IsPredicateAnswer L p r → (IsMaybe r → IsUndecided L p) → IfSome (whether_answered r) (IsAnswer L (whether p))
unfolding IsAnswer
whether-right L p (Ok x) h u = certain-right L p x.certainty h u
whether-right L p (Err fault.NoSolution) h u = h
whether-right L p (Err fault.RerunNonErased) h u = tt
whether-right L p (Err fault.OutOfMemory) h u = tt
whether-right L p (Err fault.NotForThisKind) h u = tt

-- and what is decided is right at each level that proves as much
certain-lasts : {L M : Level} → IsWithin L M → (p : PredicateTree) (x : Certainty) → IsHoldingResponse L p x → IfSome (if_decided (said_of_whether x)) (IsAnswer M (whether p))
unfolding IsAnswer
certain-lasts w p certainty.Yes h = answer-within w (whether p) yes refl h
certain-lasts w p certainty.Maybe h = tt

pub whether-lasts : {L M : Level} → IsWithin L M → (p : PredicateTree) (r : Result Response Fault) → IsPredicateAnswer L p r → IfSome (decided_in (whether_answered r)) (IsAnswer M (whether p))
unfolding IsAnswer
whether-lasts w p (Ok x) h = certain-lasts w p x.certainty h
whether-lasts w p (Err fault.NoSolution) h = answer-within w (whether p) no refl h
whether-lasts w p (Err fault.RerunNonErased) h = tt
whether-lasts w p (Err fault.OutOfMemory) h = tt
whether-lasts w p (Err fault.NotForThisKind) h = tt

-- nothing but lifetimes is changed where no value is listed
pub changes-lifetimes : (s : State) (r : Result Response Fault) → AnswersAside (length (kinds_of s)) r → IfOk r (λ x. x.var_values.items ≡ []) → IfOk r (ChangesLifetimes s)
changes-lifetimes s (Ok x) quiet values = record { quiet = quiet; values = values }
changes-lifetimes s (Err f) quiet values = tt

-- what a body says of a predicate
module _ (before after : State) (env : List Clause) where
  pub answers-predicate : (p : PredicateTree) (r : Result Response Fault) →
      ((m : TypingMode) → IsOwed after m → IsPredicateAnswer (level_over before m env) p r) →
      ((m : TypingMode) → IsOwed after m → IsMaybe r → IsUndecided (level_over before m env) p) →
      AnswersAside (length (kinds_of before)) r → IfOk r (λ x. x.var_values.items ≡ []) → AnswersPredicate before after env p r
  answers-predicate p r sound decided quiet values = record {
    exact = λ m owed. whether-right (level_over before m env) p r (sound m owed) (decided m owed);
    lasts = λ m n stands le. whether-lasts (within-level (setting_of before.tables m env) before.remaining_depth n le) p r (sound m stands);
    quiet = changes-lifetimes before r quiet values;
  }

-- an answer to a trait goal is one to its predicate
holding-trait : (L : Level) (i : TraitId) (ts : List Tree) (x : Certainty) (r : Response) → IsTraitResponse L i ts x r → IsHoldingResponse L (holds i ts) x
unfolding ClauseHolds
holding-trait L i ts certainty.Yes r h = (h.0, h.2)
holding-trait L i ts certainty.Maybe r h = tt

predicate-trait : (L : Level) (i : TraitId) (ts : List Tree) (r : Result Response Fault) → IsTraitAnswer L i ts r → IsPredicateAnswer L (holds i ts) r
unfolding ClauseRefuted
predicate-trait L i ts (Ok x) h = holding-trait L i ts x.certainty x h
predicate-trait L i ts (Err fault.NoSolution) h = h
predicate-trait L i ts (Err fault.RerunNonErased) h = tt
predicate-trait L i ts (Err fault.OutOfMemory) h = tt
predicate-trait L i ts (Err fault.NotForThisKind) h = tt

undecided-trait : (L : Level) (i : TraitId) (ts : List Tree) → IsOpen L i ts → IsUndecided L (holds i ts)
unfolding ClauseHolds ClauseRefuted
undecided-trait L i ts h = ((λ k. h.0 k.0 k.1), h.1)

-- which names its class, at each level that proves as much
class-named : {L M : Level} → IsWithin L M → (i : TraitId) (ts : List Tree) (x : Certainty) (r : Response) → IsTraitResponse L i ts x r → (x ≡ certainty.Maybe → r.proven_via ≡ None) → NamesClass M i ts x r.proven_via
class-named w i ts certainty.Yes r h k = (h.0, h.1, w.through h.0 i ts h.2)
class-named w i ts certainty.Maybe r h k = k refl

names-class : {L M : Level} → IsWithin L M → (i : TraitId) (ts : List Tree) (r : Result Response Fault) → IsTraitAnswer L i ts r →
    IfOk r (λ x. x.certainty ≡ certainty.Maybe → x.proven_via ≡ None) → IfOk r (λ x. NamesClass M i ts x.certainty x.proven_via)
names-class w i ts (Ok x) h k = class-named w i ts x.certainty x h k
names-class w i ts (Err f) h k = tt

pub answers-trait : (before after : State) (env : List Clause) (q : TraitTree) (r : Result Response Fault) →
    ((m : TypingMode) → IsOwed after m → IsTraitAnswer (level_over before m env) q.def_id q.args r) →
    ((m : TypingMode) → IsOwed after m → IsMaybe r → IsOpen (level_over before m env) q.def_id q.args) →
    AnswersAside (length (kinds_of before)) r → IfOk r (λ x. x.var_values.items ≡ []) → IfOk r (λ x. x.certainty ≡ certainty.Maybe → x.proven_via ≡ None) →
    AnswersTrait before after env q r
answers-trait before after env q r sound decided quiet values class = record {
  answers = answers-predicate before after env (holds q.def_id q.args) r
      (λ m stands. predicate-trait (level_over before m env) q.def_id q.args r (sound m stands))
      (λ m o u. undecided-trait (level_over before m env) q.def_id q.args (decided m o u)) quiet values;
  class = λ m n stands le. names-class (within-level (setting_of before.tables m env) before.remaining_depth n le) q.def_id q.args r (sound m stands) class;
}

pub answers-projection : (before after : State) (env : List Clause) (p : ProjectionPredicate) (r : Result Response Fault) →
    ((m : TypingMode) → IsOwed after m → IsPredicateAnswer (level_over before m env) (equation_asked p) r) →
    ((m : TypingMode) → IsOwed after m → IsMaybe r → IsUndecided (level_over before m env) (equation_asked p)) →
    AnswersAside (length (kinds_of before)) r → IfOk r (λ x. x.var_values.items ≡ []) → IfOk r NamesNoClass → AnswersProjection before after env p r
answers-projection before after env p r sound decided quiet values unnamed = record {
  answers = answers-predicate before after env (equation_asked p) r sound decided quiet values;
  no_class = unnamed;
}

-- a yes says that the predicate holds
yes-given : (L : Level) (p : PredicateTree) (x : Certainty) → x ≡ certainty.Yes → IsHoldingResponse L p x → ClauseHolds L p
yes-given L p certainty.Yes e h = h
yes-given L p certainty.Maybe e h = absurd (cc)

yes-holding : (L : Level) (p : PredicateTree) (r : Result Response Fault) → IsYes r → IsPredicateAnswer L p r → ClauseHolds L p
yes-holding L p (Ok x) e h = yes-given L p x.certainty e h
yes-holding L p (Err f) e h = absurd e

-- so the plain goal holds too, and what holds as `const` is refuted as `[const]` nowhere
const-holding : (L : Level) (c : BoundConstness) (i : TraitId) (ts : List Tree) (r : Result Response Fault) → IsYes r → IsPredicateAnswer L (holds_const c i ts) r → L.const_holds c i ts
unfolding ClauseHolds
const-holding L c i ts r e h = yes-holding L (holds_const c i ts) r e h

plain-holding : {L M : Level} → IsWithin L M → (i : TraitId) (ts : List Tree) → ClauseHolds L (holds i ts) → IsAnswer M (whether (holds i ts)) yes
unfolding IsAnswer
plain-holding w i ts h = answer-within w (whether (holds i ts)) yes refl h

plain-of : (L : Level) (i : TraitId) (ts : List Tree) → ((c : TraitGoalProvenVia) × L.through c i ts) → ClauseHolds L (holds i ts)
unfolding ClauseHolds
plain-of L i ts h = h

never-refuted : (S : Setting) (n k : ℕ) (c : BoundConstness) (i : TraitId) (ts : List Tree) → c ≡ constness.Const → (level S n).const_holds c i ts →
    IsAnswer (level S k) (whether (holds_const constness.Maybe i ts)) no → ⊥
unfolding IsAnswer ClauseRefuted
never-refuted S n k c i ts e h j = const-agrees S n k i ts (subst (λ (x : BoundConstness). (level S n).const_holds x i ts) e h) j

pub answers-host_effect : (before after : State) (env : List Clause) (p : HostEffectPredicate) (r : Result Response Fault) →
    ((m : TypingMode) → IsOwed after m → IsPredicateAnswer (level_over before m env) (const_asked p) r) →
    ((m : TypingMode) → IsOwed after m → IsMaybe r → IsUndecided (level_over before m env) (const_asked p)) →
    AnswersAside (length (kinds_of before)) r → IfOk r (λ x. x.var_values.items ≡ []) → IfOk r NamesNoClass → AnswersHostEffect before after env p r
answers-host_effect before after env p r sound decided quiet values unnamed = record {
  answers = answers-predicate before after env (const_asked p) r sound decided quiet values;
  no_class = unnamed;
  plain = λ yes m n stands le.
      plain-holding (within-level (setting_of before.tables m env) before.remaining_depth n le) p.trait_ref.def_id (erased_args p.trait_ref.args.items)
      (plain-of (level_over before m env) p.trait_ref.def_id (erased_args p.trait_ref.args.items)
      (const-plain (setting_of before.tables m env) before.remaining_depth p.constness p.trait_ref.def_id (erased_args p.trait_ref.args.items)
      (const-holding (level_over before m env) p.constness p.trait_ref.def_id (erased_args p.trait_ref.args.items) r yes (sound m stands))));
  stronger = λ yes is m n stands.
      never-refuted (setting_of before.tables m env) before.remaining_depth n p.constness p.trait_ref.def_id (erased_args p.trait_ref.args.items) is
      (const-holding (level_over before m env) p.constness p.trait_ref.def_id (erased_args p.trait_ref.args.items) r yes (sound m stands));
}

-- the term that is listed is the alias's
said-right : (L : Level) (k : AliasTermKind) (ts : List Tree) (e : Term) (x : Certainty) (r : Response) → IsAliasResponse L k ts e x r →
    (x ≡ certainty.Maybe → IsAnswer L (which_term k ts) maybe) → IsAnswer L (which_term k ts) (said_of_term x r.var_values.items)
unfolding IsAnswer
said-right L k ts e certainty.Yes r h u =
    subst (λ (vs : List (ℕ × Term)). IsAnswer L (which_term k ts) (listed_term vs)) (sym h.2.2.1) (subst (λ (t : Tree). L.gives k ts t) (sym h.2.2.2) h.1)
said-right L k ts e certainty.Maybe r h u = u refl

term-right : (L : Level) (k : AliasTermKind) (ts : List Tree) (e : Term) (r : Result Response Fault) → IsAliasAnswer L k ts e r → (IsMaybe r → IsAnswer L (which_term k ts) maybe) →
    IfSome (term_answered r) (IsAnswer L (which_term k ts))
unfolding IsAnswer
term-right L k ts e (Ok x) h u = said-right L k ts e x.certainty x h u
term-right L k ts e (Err fault.NoSolution) h u = h
term-right L k ts e (Err fault.RerunNonErased) h u = tt
term-right L k ts e (Err fault.OutOfMemory) h u = tt
term-right L k ts e (Err fault.NotForThisKind) h u = tt

said-lasts : (L M : Level) (k : AliasTermKind) (ts : List Tree) → ((t : Tree) → L.gives k ts t → M.gives k ts t) → (e : Term) (x : Certainty) (r : Response) → IsAliasResponse L k ts e x r →
    IfSome (if_decided (said_of_term x r.var_values.items)) (IsAnswer M (which_term k ts))
unfolding IsAnswer
said-lasts L M k ts given e certainty.Yes r h =
    subst (λ (vs : List (ℕ × Term)). IfSome (if_decided (listed_term vs)) (IsAnswer M (which_term k ts))) (sym h.2.2.1)
    (subst (λ (t : Tree). M.gives k ts t) (sym h.2.2.2) (given h.0 h.1))
said-lasts L M k ts given e certainty.Maybe r h = tt

term-said : (L M : Level) (k : AliasTermKind) (ts : List Tree) → ((t : Tree) → L.gives k ts t → M.gives k ts t) → (L.gives_refuted k ts → M.gives_refuted k ts) →
    (e : Term) (r : Result Response Fault) → IsAliasAnswer L k ts e r → IfSome (decided_in (term_answered r)) (IsAnswer M (which_term k ts))
unfolding IsAnswer
term-said L M k ts given refuted e (Ok x) h = said-lasts L M k ts given e x.certainty x h
term-said L M k ts given refuted e (Err fault.NoSolution) h = refuted h
term-said L M k ts given refuted e (Err fault.RerunNonErased) h = tt
term-said L M k ts given refuted e (Err fault.OutOfMemory) h = tt
term-said L M k ts given refuted e (Err fault.NotForThisKind) h = tt

term-lasts : {L M : Level} → IsWithin L M → (k : AliasTermKind) (ts : List Tree) (e : Term) (r : Result Response Fault) → IsAliasAnswer L k ts e r →
    IfSome (decided_in (term_answered r)) (IsAnswer M (which_term k ts))
term-lasts {L = L} {M = M} w k ts = term-said L M k ts (w.gives k ts) (w.gives_refuted k ts)

-- and no other value is listed
lists-term : (e : Term) (x : Certainty) (vs : List (ℕ × Term)) → (x ≡ certainty.Yes → ListsTerm e certainty.Yes vs) → (x ≡ certainty.Maybe → vs ≡ []) → ListsTerm e x vs
lists-term e certainty.Yes vs h u = h refl
lists-term e certainty.Maybe vs h u = u refl

gives-alone : (s : State) (e : Term) (r : Result Response Fault) → AnswersAside (length (kinds_of s)) r → IfOk r (λ x. x.certainty ≡ certainty.Yes → ListsTerm e certainty.Yes x.var_values.items) →
    IfOk r (λ x. x.certainty ≡ certainty.Maybe → x.var_values.items ≡ []) → IfOk r (GivesTermAlone s e)
gives-alone s e (Ok x) quiet h u = record { quiet = quiet; values = lists-term e x.certainty x.var_values.items h u }
gives-alone s e (Err f) quiet h u = tt

-- what is found is given to the expected variable
pub found-lists : (e : Term) (n : ℕ) (r : Result Response Fault) → expected_variable e ≡ Some n → IfOk r (λ x. x.certainty ≡ certainty.Yes → (u : Term) × (x.var_values.items ≡ (n, u) ∷ [])) →
    IfOk r (λ x. x.certainty ≡ certainty.Yes → ListsTerm e certainty.Yes x.var_values.items)
found-lists e n (Ok x) is h = λ y. (n, (h y).0, is, (h y).1)
found-lists e n (Err f) is h = tt

-- what isn't sure gives nothing
pub unsure-lists : (e : Term) (r : Result Response Fault) → IfOk r (λ x. x.certainty ≢ certainty.Yes) → IfOk r (λ x. x.certainty ≡ certainty.Yes → ListsTerm e certainty.Yes x.var_values.items)
unsure-lists e (Ok x) h = λ y. absurd (h y)
unsure-lists e (Err f) h = tt

pub maybe-lists : (e : Term) (x : Response) → x.certainty ≡ certainty.Maybe → x.certainty ≡ certainty.Yes → ListsTerm e certainty.Yes x.var_values.items
maybe-lists e x h y = absurd (cc)

-- the expected term of an accepted goal is a general variable
node-expected : (s : State) (a : AliasTerm) (env : List Clause) (m : Node) → lacks_free_variable s (general_variable m) a env ≡ false → (n : ℕ) × (general_variable_at m ≡ Some n)
node-expected s a env (nodes.Head h) e = absurd (cc)
node-expected s a env (nodes.Alias k) e = absurd (cc)
node-expected s a env (nodes.Variable (variables.Ty (infer.TyVar k))) e = (k, refl)
node-expected s a env (nodes.Variable (variables.Ty (infer.IntVar k))) e = absurd (cc)
node-expected s a env (nodes.Variable (variables.Ty (infer.FloatVar k))) e = absurd (cc)
node-expected s a env (nodes.Variable (variables.Const k)) e = (k, refl)

pub accepted-expected : (s : State) (p : NormalizesTo) (env : List Clause) → IsAcceptedNormalization s p env → (n : ℕ) × (expected_variable p.term ≡ Some n)
accepted-expected s p env ok = node-expected s p.alias env (node_of (tree_of_term p.term)) (ok ExpectedTermNotFree)

pub answers-alias : (before after : State) (env : List Clause) (p : NormalizesTo) (r : Result Response Fault) →
    ((m : TypingMode) → IsOwed after m → IsAliasAnswer (level_over before m env) p.alias.kind (erased_args p.alias.args.items) p.term r) →
    ((m : TypingMode) (n : ℕ) → IsOwed after m → IsAcceptedNormalization before p env → expected_variable p.term ≡ Some n → IsMaybe r → IsAnswer (level_over before m env) (term_asked p) maybe) →
    AnswersAside (length (kinds_of before)) r → IfOk r (λ x. x.certainty ≡ certainty.Yes → ListsTerm p.term certainty.Yes x.var_values.items) →
    IfOk r (λ x. x.certainty ≡ certainty.Maybe → x.var_values.items ≡ []) → IfOk r NamesNoClass → AnswersAlias before after env p r
answers-alias before after env p r sound whole quiet given values unnamed =
    record {
      exact = λ ok m o other.
          let expected : (n : ℕ) × (expected_variable p.term ≡ Some n) = accepted-expected before p env ok in
          term-right (level_over before m env) p.alias.kind (erased_args p.alias.args.items) p.term r (sound m o) (whole m expected.0 o ok expected.1);
      lasts = λ m n stands other le. term-lasts (within-level (setting_of before.tables m env) before.remaining_depth n le) p.alias.kind (erased_args p.alias.args.items) p.term r (sound m stands);
      quiet = λ none. gives-alone before p.term r quiet given values;
      no_class = unnamed;
    }

-- no two answers disagree
pub no-two-disagree : (t : Tables) (env : List Clause) (q : Question) → NoTwoDisagree t env q
no-two-disagree t env q m n k a b d e h j = answers-agree (setting_of t m env) n k q a b d e h j

pub false-unless : (b : Bool) → (b ≡ true → ⊥) → b ≡ false
false-unless true h = absurd (h refl)
false-unless false h = refl

-- with depth left, and where the expected term is a general variable, a goal isn't answered at once
pub not-at_once : (d : ℕ) (o : Option ℕ) (n : ℕ) → (d ≡ 0 → ⊥) → o ≡ Some n → (d ≡ 0) ⊎ (o ≡ None) → ⊥
not-at_once d o n positive e (inl h) = positive h
not-at_once d o n positive e (inr h) = absurd (cc)

-- a yes isn't a maybe
pub yes-unsure : (x : Certainty) (A : Type 0) → x ≡ certainty.Yes → x ≡ certainty.Maybe → A
yes-unsure x A e h = absurd (cc)

-- a response that is unsure and lists nothing leaves its goal undecided
pub leaves-undecided : (s : State) (x : Response) → x.certainty ≡ certainty.Maybe → x.proven_via ≡ None → x.var_values.items ≡ [] → IsQuiet (length (kinds_of s)) x → LeavesUndecided s (Ok x)
leaves-undecided s x e p v q = record { certainty = e; no_class = p; changes = record { quiet = q; values = v } }

-- what the candidates of an alias answer through a class
pub answers-through : (before after : State) (env : List Clause) (a : Through) (r : Result Response Fault) →
    ((m : TypingMode) → IsOwed after m → IsAliasAnswer (through_level before m env a) a.asked.alias.kind (erased_args a.asked.alias.args.items) a.asked.term r) →
    ((m : TypingMode) (n : ℕ) → IsOwed after m → expected_variable a.asked.term ≡ Some n → IsMaybe r → IsAliasOpen (through_level before m env a) a.asked.alias.kind (erased_args a.asked.alias.args.items)) →
    ((m : TypingMode) → IsOwed after m → IsProven before m env a → IsAliasAnswer (level_above before m env) a.asked.alias.kind (erased_args a.asked.alias.args.items) a.asked.term r) →
    ((m : TypingMode) (n : ℕ) → IsOwed after m → IsProven before m env a → IsAcceptedNormalization before a.asked env → expected_variable a.asked.term ≡ Some n → IsMaybe r →
    IsAnswer (level_above before m env) (term_asked a.asked) maybe) →
    AnswersAside (length (kinds_of before)) r → IfOk r (λ x. x.certainty ≡ certainty.Yes → ListsTerm a.asked.term certainty.Yes x.var_values.items) →
    IfOk r (λ x. x.certainty ≡ certainty.Maybe → x.var_values.items ≡ []) → IfOk r NamesNoClass → AnswersThrough before after env a r
answers-through before after env a r sound decided above whole quiet given values unnamed =
    record {
      sound = λ m stands.
          term-said (through_level before m env a) (through_level before m env a) a.asked.alias.kind (erased_args a.asked.alias.args.items) (λ t h. h) (λ h. h) a.asked.term r (sound m stands);
      decided = decided;
      exact = λ m o proven ok.
          let expected : (n : ℕ) × (expected_variable a.asked.term ≡ Some n) = accepted-expected before a.asked env ok in
          term-right (level_above before m env) a.asked.alias.kind (erased_args a.asked.alias.args.items) a.asked.term r (above m o proven) (whole m expected.0 o proven ok expected.1);
      lasts = λ m n stands proven le.
          term-lasts (within-level (setting_of before.tables m env) (suc before.remaining_depth) n (omega arith)) a.asked.alias.kind (erased_args a.asked.alias.args.items) a.asked.term r (above m stands proven);
      quiet = gives-alone before a.asked.term r quiet given values;
      no_class = unnamed;
    }

pub none_through : (m : MergeRule) (c : Option TraitGoalProvenVia) (o : Option NormalizesTo) → m ≡ merge.Projections → c ≡ None → asked_through m c o ≡ None
none_through m c o e f = ap (λ (x : MergeRule). asked_through x c o) e ∙ ap (λ (x : Option TraitGoalProvenVia). given_through x o) f

pub some_through : (m : MergeRule) (c : Option TraitGoalProvenVia) (o : Option NormalizesTo) (x : TraitGoalProvenVia) → m ≡ merge.Projections → c ≡ Some x → asked_through m c o ≡ given_through (Some x) o
some_through m c o x e f = ap (λ (y : MergeRule). asked_through y c o) e ∙ ap (λ (y : Option TraitGoalProvenVia). given_through y o) f

pub none-some : (a : Through) → None ≡ Some a → ⊥
none-some a e = absurd (cc)

pub trait_not_projection : (m : MergeRule) (c : Option TraitGoalProvenVia) (o : Option NormalizesTo) (a : Through) → m ≡ merge.TraitGoals → asked_through m c o ≡ Some a → ⊥
trait_not_projection m c o a e h = none-some a (sym (ap (λ (x : MergeRule). asked_through x c o) e) ∙ h)

pub host_not_projection : (m : MergeRule) (c : Option TraitGoalProvenVia) (o : Option NormalizesTo) (a : Through) → m ≡ merge.HostEffectGoals → asked_through m c o ≡ Some a → ⊥
host_not_projection m c o a e h = none-some a (sym (ap (λ (x : MergeRule). asked_through x c o) e) ∙ h)

-- no kind is merged in two ways
pub trait_not_projections : (m : MergeRule) → m ≡ merge.TraitGoals → m ≡ merge.Projections → ⊥
trait_not_projections m e f = absurd (cc)

pub trait_not_host : (m : MergeRule) → m ≡ merge.TraitGoals → m ≡ merge.HostEffectGoals → ⊥
trait_not_host m e f = absurd (cc)

pub host_not_projections : (m : MergeRule) → m ≡ merge.HostEffectGoals → m ≡ merge.Projections → ⊥
host_not_projections m e f = absurd (cc)
