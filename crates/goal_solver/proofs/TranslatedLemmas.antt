-- The arguments that a definition of a goal's item takes.
use Rattle.std.proofs.Common.{◌≡◌, ℕ, zero, suc, Bool, true, false, List, [], ◌∷◌, ◌++◌, length, map, Some, None, Result, Ok, Err, Vec, refl, sym, ap, ◌∙◌, subst}
use Rattle.std.specs.Global.{Global}
use Rattle.std.specs.Prelude.{◌||◌, slice_get, IfOk, if◌then◌else◌}
use Rattle.std.specs.List.{list_any}
use Rattle.std.proofs.lemmas.List.{append-nil, length-map}
use Rattle.goal_terms.specs.Erased.{erased}
use Rattle.goal_terms.specs.Folding.{instance}
use Rattle.goal_terms.specs.NodeTests.{is_any_infer, some_node, same_var_kind}
use Rattle.goal_interner.specs.TableMeaning.{tree_at, Keeps}
use Rattle.goal_terms.specs.Tree.{Tree}
use Rattle.goal_terms.specs.TreeOf.{tree_of_arg, trees_of}
use Rattle.goal_terms.specs.declared.answers.Certainty.{Certainty}
use Rattle.goal_terms.specs.declared.answers.Certainty.TheVariants as certainty
use Rattle.goal_terms.specs.declared.answers.ParamKind.{ParamKind}
use Rattle.goal_terms.specs.declared.answers.ParamKind.TheVariants as kind
use Rattle.goal_terms.specs.declared.answers.VarKind.{VarKind}
use Rattle.goal_terms.specs.declared.heads.Variable.{Variable}
use Rattle.goal_terms.specs.declared.modes.TypingMode.{TypingMode}
use Rattle.goal_interner.specs.declared.term_nodes.TermId.{TermId}
use Rattle.goal_terms.specs.declared.terms.GenericArg.{GenericArg}
use Rattle.goal_tables.specs.declared.rows.ImplRow.{ImplRow}
use Rattle.goal_infer.specs.Inference.{Inference}
use Rattle.goal_infer.specs.Replacement.{replaced, number_of, kind_of_variable}
use Rattle.goal_infer.specs.Resolution.{term_at, binding_in, binding_of, resolution, resolved, IsSolved, Agrees}
use Rattle.goal_infer.specs.declared.undo.InferVariable.{InferVariable}
use Rattle.goal_lists.specs.Headers.{under, PartsFrom, AllKnown, Fits, Clashes}
use Rattle.goal_lists.specs.Interned.{erased_at, erased_all}
use Rattle.goal_lists.specs.Laws.{IsConsistent}
use Rattle.goal_lists.specs.Level.{Level}
use Rattle.goal_lists.specs.TraitGoals.{header_of}
use Rattle.goal_kinds.specs.declared.faults.Fault.{Fault}
use Rattle.goal_lists.proofs.SubstitutionLemmas.{one_substitution}
use Rattle.goal_lists.proofs.UnderLemmas.{under-erased_term}
use Rattle.goal_eval.specs.ErasedArgs.{erased_args}
use Rattle.goal_solver.specs.Answers.{IsOwed}
use Rattle.goal_eval.specs.Outcomes.{SaysMatch}
use Rattle.goal_solver.specs.Relating.{AgreesWith}
use Rattle.goal_solver.specs.State.{State}
use Rattle.goal_solver.specs.TranslatedArgs.{AnswersJust, IsTranslatedBy, IsTranslation, IsHeaderOpen, MakesVariables, MatchCounts}
use Rattle.goal_solver.specs.Variables.{unbound, with_variables, fresh_args}
use Rattle.goal_eval.specs.declared.eval.outcomes.HeaderMatch.{HeaderMatch}
use Rattle.goal_eval.specs.declared.eval.outcomes.HeaderMatch.TheVariants as match
use Rattle.goal_solver.specs.GoingBack.{GoesBack}
use Rattle.goal_solver.proofs.GoingBackLemmas.{goes_back-through}
use Rattle.goal_solver.proofs.VariableLemmas.{goes_back-when_made}
use Rattle.goal_solver.proofs.EquatedLemmas.{erased-trees}
use Rattle.goal_solver.proofs.SettledLemmas.{closed-erased}
use Rattle.goal_solver.proofs.SinceMarkLemmas.{resolution-kept}

-- an inference variable stands in some terms where one stands in them without their lifetimes
pub any-erased : (T : List Tree) (ids : List TermId) → list_any (some_node is_any_infer) (erased_all T ids) ≡ list_any (some_node is_any_infer) (map (tree_at T) ids)
any-erased T [] = refl
any-erased T (id ∷ ids) =
    ap (λ b. b || list_any (some_node is_any_infer) (erased_all T ids)) (closed-erased (tree_at T id))
    ∙ ap (λ b. some_node is_any_infer (tree_at T id) || b) (any-erased T ids)

pub ruleset erased_terms = (any-erased)

-- terms after all bindings, step by step
resolved-steps : (U : List Tree) (s : Inference) (ids : List TermId) → map (resolved U s) ids ≡ map (replaced (resolution U s)) (map erased (map (tree_at U) ids))
unfolding resolved term_at
resolved-steps U s [] = refl
resolved-steps U s (id ∷ ids) = ap (λ ts. replaced (resolution U s) (erased (tree_at U id)) ∷ ts) (resolved-steps U s ids)

followed-terms : (V : List Tree) (ids : List TermId) → erased_all V ids ≡ map (term_at V) ids
unfolding term_at
followed-terms V [] = refl
followed-terms V (id ∷ ids) = ap (λ ts. erased (tree_at V id) ∷ ts) (followed-terms V ids)

-- the terms of the numbers that follow those that terms got
pub all_bound-here : (T U V : List Tree) (s : Inference) (ids rs : List TermId) (ts : List Tree) → Keeps T U → IsSolved T s → map (tree_at U) ids ≡ ts →
    map (term_at V) rs ≡ map (resolved U s) ids → erased_all V rs ≡ map (replaced (resolution T s)) (map erased ts)
all_bound-here T U V s ids rs ts keeps solved here trees =
    followed-terms V rs ∙ trees ∙ resolved-steps U s ids
    ∙ ap (λ (ρ : Variable → Tree). map (replaced ρ) (map erased (map (tree_at U) ids))) (resolution-kept T U s keeps solved)
    ∙ ap (λ us. map (replaced (resolution T s)) (map erased us)) here

-- a list has as many terms as there are parameters, whose terms they are
parts-count : (L : Level) (hs gs : List Tree) (n : ℕ) (ps : List ParamKind) (s : List Tree) → PartsFrom L hs gs n ps s → length s ≡ length ps
unfolding PartsFrom
parts-count L hs gs n [] [] h = refl
parts-count L hs gs n [] (a ∷ s) h = absurd h
parts-count L hs gs n (k ∷ ks) [] h = absurd h
parts-count L hs gs n (kind.Lifetime ∷ ks) (a ∷ s) h = ap suc (parts-count L hs gs (suc n) ks s h.1)
parts-count L hs gs n (kind.Ty ∷ ks) (a ∷ s) h = ap suc (parts-count L hs gs (suc n) ks s h.1)
parts-count L hs gs n (kind.Const ∷ ks) (a ∷ s) h = ap suc (parts-count L hs gs (suc n) ks s h.1)

pub known-count : (L : Level) (q : ImplRow) (gs : List Tree) (T : List Tree) (ids : List TermId) → AllKnown L q.params.items (header_of q) gs (erased_all T ids) →
    length (map (tree_at T) ids) ≡ length q.params.items
unfolding AllKnown
known-count L q gs T ids h =
    length-map ids (tree_at T) ∙ sym (length-map ids (erased_at T)) ∙ parts-count L (header_of q) gs 0 q.params.items (erased_all T ids) h

-- as many fresh variables
pub fresh-count : (ps : List ParamKind) (n : ℕ) → length (fresh_args ps n) ≡ length ps
fresh-count [] n = refl
fresh-count (k ∷ ks) n = ap suc (fresh-count ks (suc n))

-- so many arguments are answered
pub just-count : (ts : List Tree) (c : Certainty) (n : ℕ) (r : Result (Vec GenericArg Global × Certainty) Fault) → length ts ≡ n → AnswersJust ts c r → IfOk r (λ x. length x.0.items ≡ n)
just-count ts c n (Ok x) e h = sym (length-map x.0.items tree_of_arg) ∙ ap length h.0 ∙ e
just-count ts c n (Err f) e h = tt

-- the arguments of numbers, without lifetimes
erased-just : (T : List Tree) (ids : List TermId) (args : List GenericArg) → trees_of args ≡ map (tree_at T) ids → erased_args args ≡ erased_all T ids
erased-just T ids args e = ap (map erased) e ∙ sym (erased-trees T ids)

module _ (L : Level) (q : ImplRow) (gs T : List Tree) where
  -- what is found where the header fits
  pub fits-translation : (ids : List TermId) (r : Result (Vec GenericArg Global × Certainty) Fault) → Fits L q.params.items (header_of q) gs (erased_all T ids) →
      AnswersJust (map (tree_at T) ids) certainty.Yes r → IsTranslation L q gs [] r
  fits-translation ids (Ok x) fits h =
      subst (IsTranslatedBy L q gs [] (erased_args x.0.items)) (sym h.1)
      (erased_all T ids, fits, erased-just T ids x.0.items h.0 ∙ sym (append-nil (erased_all T ids)))
  fits-translation ids (Err f) fits h = subst (λ g. IsTranslation L q gs [] (Err g)) (sym h) tt

  -- what is known where it doesn't fit
  pub known-translation : IsConsistent L → (ids : List TermId) (r : Result (Vec GenericArg Global × Certainty) Fault) → AllKnown L q.params.items (header_of q) gs (erased_all T ids) →
      AnswersJust (map (tree_at T) ids) certainty.Maybe r → IsTranslation L q gs [] r
  known-translation consistent ids (Ok x) known h =
      subst (IsTranslatedBy L q gs [] (erased_args x.0.items)) (sym h.1)
      (λ s k. erased-just T ids x.0.items h.0 ∙ one_substitution L consistent q.params.items (header_of q) gs (erased_all T ids) s known k ∙ sym (append-nil s))
  known-translation consistent ids (Err f) known h = subst (λ g. IsTranslation L q gs [] (Err g)) (sym h) tt

  pub known-open : IsConsistent L → (s : List Tree) → AllKnown L q.params.items (header_of q) gs s → (Fits L q.params.items (header_of q) gs s → ⊥) →
      (Clashes L q.params.items (header_of q) gs → ⊥) → IsHeaderOpen L q gs
  unfolding Fits
  known-open consistent s known no_fit no_clash = (
    (λ z f. no_fit (subst (Fits L q.params.items (header_of q) gs) (one_substitution L consistent q.params.items (header_of q) gs z s f.0 known) f)),
    no_clash,
  )

  -- where nothing is known
  pub unknown-open : SaysMatch L q.params.items (header_of q) gs T match.Unknown → IsHeaderOpen L q gs
  unfolding Fits
  unknown-open h = ((λ s f. h.0 s f.0), h.1)

-- an unbound variable that was made is bound to nothing
fresh-unbound : (j k : VarKind) → binding_in (Some (unbound j)) k ≡ None
fresh-unbound j k = on (same_var_kind j k) where
  on : (b : Bool) → (if b then (unbound j).binding else None) ≡ None
  on true = refl
  on false = refl

fresh-bindings : (xs : List InferVariable) (ks : List VarKind) (n : ℕ) (k : VarKind) → binding_in (slice_get (xs ++ map unbound ks) n) k ≡ binding_in (slice_get xs n) k
fresh-bindings [] [] n k = refl
fresh-bindings [] (j ∷ js) zero k = fresh-unbound j k
fresh-bindings [] (j ∷ js) (suc n) k = fresh-bindings [] js n k
fresh-bindings (x ∷ xs) ks zero k = refl
fresh-bindings (x ∷ xs) ks (suc n) k = fresh-bindings xs ks n k

-- what agrees with a context agrees with it when variables were made
pub agrees-made : (s : State) (ks : List VarKind) (ρ : Variable → Tree) → AgreesWith s ρ → AgreesWith (with_variables ks s) ρ
unfolding Agrees binding_of
agrees-made s ks ρ h v id e = h v id (sym (fresh-bindings s.inference.variables ks (number_of v) (kind_of_variable v)) ∙ e)

-- the instance of a header, without lifetimes
pub header-instance : (s ts : List Tree) → map erased (map (instance s) ts) ≡ map (under s) (map erased ts)
header-instance s [] = refl
header-instance s (t ∷ ts) = ap (λ u. u ∷ map erased (map (instance s) ts)) (sym (under-erased_term s t)) ∙ ap (λ us. under s (erased t) ∷ us) (header-instance s ts)

-- what is answered where a header was found to fit, or all its parameters are known
module _ (L : Level) (q : ImplRow) (gs T : List Tree) (o : HeaderMatch) (found : Vec TermId Global) (ids : List TermId) (says : SaysMatch L q.params.items (header_of q) gs T o) where
  pub fits-answered : (r : Result (Vec GenericArg Global × Certainty) Fault) → o ≡ match.Fits found → ids ≡ found.items → AnswersJust (map (tree_at T) ids) certainty.Yes r → IsTranslation L q gs [] r
  fits-answered r e f h =
      fits-translation L q gs T found.items r (subst (SaysMatch L q.params.items (header_of q) gs T) e says)
      (subst (λ (ns : List TermId). AnswersJust (map (tree_at T) ns) certainty.Yes r) f h)

  pub known-answered : IsConsistent L → (r : Result (Vec GenericArg Global × Certainty) Fault) → o ≡ match.Known found → ids ≡ found.items → AnswersJust (map (tree_at T) ids) certainty.Maybe r →
      IsTranslation L q gs [] r
  known-answered consistent r e f h =
      known-translation L q gs T consistent found.items r (subst (SaysMatch L q.params.items (header_of q) gs T) e says).0
      (subst (λ (ns : List TermId). AnswersJust (map (tree_at T) ns) certainty.Maybe r) f h)

  pub known-undecided : IsConsistent L → o ≡ match.Known found → IsHeaderOpen L q gs
  known-undecided consistent e =
      let known : SaysMatch L q.params.items (header_of q) gs T (match.Known found) = subst (SaysMatch L q.params.items (header_of q) gs T) e says in
      known-open L q gs T consistent (erased_all T found.items) known.0 known.1 known.2

  -- where it fits, all parameters are known
  pub fits-known : o ≡ match.Fits found → ((s : List Tree) → AllKnown L q.params.items (header_of q) gs s → ⊥) → ⊥
  unfolding Fits
  fits-known e none = none (erased_all T found.items) (subst (SaysMatch L q.params.items (header_of q) gs T) e says).0

-- a match whose parameters are known has their terms
known-terms : (L : Level) (q : ImplRow) (gs : List Tree) (T : List Tree) (ids : List TermId) → AllKnown L q.params.items (header_of q) gs (erased_all T ids) → length ids ≡ length q.params.items
known-terms L q gs T ids h = sym (length-map ids (tree_at T)) ∙ known-count L q gs T ids h

pub says-counts : (L : Level) (q : ImplRow) (gs : List Tree) (T : List Tree) (o : HeaderMatch) → SaysMatch L q.params.items (header_of q) gs T o → MatchCounts (length q.params.items) o
unfolding Fits
says-counts L q gs T (match.Fits s) h = known-terms L q gs T s.items h.0
says-counts L q gs T (match.Known s) h = known-terms L q gs T s.items h.0
says-counts L q gs T match.Clashes h = tt
says-counts L q gs T match.Unknown h = tt

pub counted-says : (L : Level) (q : ImplRow) (gs : List Tree) (T : List Tree) (o p : HeaderMatch) → (MatchCounts (length q.params.items) o → p ≡ o) → SaysMatch L q.params.items (header_of q) gs T o →
    SaysMatch L q.params.items (header_of q) gs T p
counted-says L q gs T o p same h = subst (SaysMatch L q.params.items (header_of q) gs T) (sym (same (says-counts L q gs T o h))) h

-- a context in which variables were made after others
pub made-through : (a b z : State) → GoesBack a b → MakesVariables b z → GoesBack a z
made-through a b z g h = goes_back-through a b z g (goes_back-when_made b z h.0 h.1)

-- what is owed when variables were made was owed before that
pub owed-made : (b z : State) (m : TypingMode) → MakesVariables b z → IsOwed z m → IsOwed b m
owed-made b z m h owed = subst (λ (s : State). IsOwed s m) h.1 owed
