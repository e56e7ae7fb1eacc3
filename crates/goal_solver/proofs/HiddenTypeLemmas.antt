-- Opaque types that are being defined: their normalized arguments, their bounds, and the goals that are answered by their lists.
use Rattle.std.proofs.Common.{◌≡◌, ℕ, suc, ◌+◌, ◌<◌, ◌-◌, List, [], ◌∷◌, ◌++◌, length, take, drop, get_or, Option, Some, Result, Ok, Err, refl, sym, ap, ◌∙◌, subst, append_assoc}
use Rattle.std.specs.Prelude.{IfOk, OnOk}
use Rattle.std.proofs.lemmas.List.{take-append-drop}
use Rattle.goal_terms.specs.Tree.{Tree}
use Rattle.goal_terms.specs.TreeOf.{tree_of_ty, trees_of}
use Rattle.goal_terms.specs.declared.answers.GoalSource.TheVariants as source
use Rattle.goal_terms.specs.declared.answers.OpaqueTypeKey.{OpaqueTypeKey}
use Rattle.goal_terms.specs.declared.answers.Response.{Response}
use Rattle.goal_terms.specs.declared.ids.OpaqueId.{OpaqueId}
use Rattle.goal_terms.specs.declared.predicates.Clause.{Clause}
use Rattle.goal_terms.specs.declared.predicates.Goal.{Goal}
use Rattle.goal_terms.specs.declared.predicates.NormalizesTo.{NormalizesTo}
use Rattle.goal_terms.specs.declared.terms.GenericArg.{GenericArg}
use Rattle.goal_terms.specs.declared.terms.Ty.{Ty}
use Rattle.goal_kinds.specs.declared.faults.Fault.{Fault}
use Rattle.goal_lists.specs.declared.lists.FirstUse.{FirstUse}
use Rattle.goal_solver.specs.Added.{EntersType}
use Rattle.goal_solver.specs.GoingBack.{restored, at_depth}
use Rattle.goal_solver.specs.HiddenTypes.{EntersHidden, NormalizesArg, behind_all, NormalizesAll, NormalizesArgs, RefusesArg, RefusesArgs, bounds_in}
use Rattle.goal_solver.specs.OpenGoals.{WhenAnswered}
use Rattle.goal_solver.specs.OpenRuns.{clauses_with, AddsGoals, AddsBounds, hidden_as}
use Rattle.goal_solver.specs.Promises.{RunsHidden}
use Rattle.goal_solver.specs.State.{State}
use Rattle.goal_solver.proofs.BelowLemmas.{said-below}
use Rattle.goal_solver.proofs.BindingLemmas.{on_ok-map}
use Rattle.goal_kinds.proofs.ClassRuleLemmas.{take-more}

-- no argument is normalized yet
pub normalized-none : (env : List Clause) (s : State) → NormalizesArgs env [] s (Some []) s
unfolding NormalizesAll
normalized-none env s = (refl, refl)

-- one more is
normalized-last : (env : List Clause) (made : Option (List Tree)) (xs : List GenericArg) (x : GenericArg) (s z u : State) (o : Option (List Tree)) (a : Option Tree) →
    NormalizesAll env made xs s o z → NormalizesArg env x z a u → NormalizesAll env made (xs ++ x ∷ []) s (behind_all o a) u
unfolding NormalizesAll
normalized-last env made [] x s z u o a h k = (u, a, subst (λ (y : State). NormalizesArg env x y a u) h.1 k, (ap (λ p. behind_all p a) h.0, refl))
normalized-last env made (y ∷ xs) x s z u o a h k = (h.0, h.1, h.2, normalized-last env (behind_all made h.1) xs x h.0 z u o a h.3 k)

pub normalized-next : (env : List Clause) (xs : List GenericArg) (i : ℕ) (x : GenericArg) (s z u : State) (o p : Option (List Tree)) (a : Option Tree) →
    i < length xs → x ≡ get_or xs i x → p ≡ behind_all o a → NormalizesArgs env (take i xs) s o z → NormalizesArg env x z a u → NormalizesArgs env (take (i + 1) xs) s p u
normalized-next env xs i x s z u o p a l at is h k =
    subst (λ (q : Option (List Tree)). NormalizesArgs env (take (i + 1) xs) s q u) (sym is)
    (subst (λ ys. NormalizesArgs env ys s (behind_all o a) u) (sym (take-more xs i x l ∙ ap (λ y. take i xs ++ y ∷ []) (sym at)))
    (normalized-last env (Some []) (take i xs) x s z u o a h k))

-- or it is refused
pub normalized-refused : (env : List Clause) (xs : List GenericArg) (i : ℕ) (x : GenericArg) (s z u : State) (o : Option (List Tree)) →
    i < length xs → x ≡ get_or xs i x → NormalizesArgs env (take i xs) s o z → RefusesArg env x z u → RefusesArgs env xs s u
normalized-refused env xs i x s z u o l at h k = record {
  before = take i xs;
  at = x;
  behind = drop (i + 1) xs;
  split = sym (take-append-drop (i + 1) xs) ∙ ap (λ ys. ys ++ drop (i + 1) xs) (take-more xs i x l ∙ ap (λ y. take i xs ++ y ∷ []) (sym at)) ∙ append_assoc (take i xs) (x ∷ []) (drop (i + 1) xs);
  last = z;
  made = o;
  normalized = h;
  refused = k;
}

-- the bounds are added under the arguments and the hidden type
pub bounds-added : {T : Type 0} (r : Result T Fault) (env : List Clause) (i : OpaqueId) (ts us : List Tree) (v : Tree) (cs : List Clause) (s z : State) → us ≡ ts ++ v ∷ [] → cs ≡ bounds_in s.tables i →
    OnOk r (AddsGoals source.AliasWellFormed env (clauses_with us cs) s z) → OnOk r (AddsBounds env (hidden_as i ts v) s z)
bounds-added r env i ts us v cs s z under rows h =
    on_ok-map r
    (λ added. subst (λ ds. AddsGoals source.AliasWellFormed env (clauses_with (ts ++ v ∷ []) ds) s z) rows
    (subst (λ ws. AddsGoals source.AliasWellFormed env (clauses_with ws cs) s z) under added))
    h

-- the list of an opaque type is run at one less of the depth
pub defines-below : (x a v w : State) (n : ℕ) (g : Goal NormalizesTo) (f : FirstUse) (r : Result Response Fault) → x ≡ a → v ≡ w → w ≡ restored (at_depth (x.remaining_depth - 1) x) w →
    a.remaining_depth ≡ suc n → WhenAnswered r (RunsHidden g f (at_depth (x.remaining_depth - 1) x) r w) → WhenAnswered r (RunsHidden g f (at_depth n a) r (at_depth n v))
defines-below x a v w n g f r e back undone depth h = said-below (λ s u. RunsHidden g f s r u) x a v w n r e back undone depth h

-- what is entered in the storage is entered for the opaque type
pub enters-hidden : (key : OpaqueTypeKey) (hidden : Ty) (i : OpaqueId) (ts : List Tree) (v : Tree) (s z : State) (r : Result (Option Ty) Fault) → key.def_id ≡ i → trees_of key.args.items ≡ ts → tree_of_ty hidden ≡ v →
    IfOk r (EntersType key hidden s z) → IfOk r (EntersHidden i ts v s z)
enters-hidden key hidden i ts v s z (Ok e) d a h k = record { key = key; hidden = hidden; same_type = d; same_args = a; same_hidden = h; entered = k }
enters-hidden key hidden i ts v s z (Err e) d a h k = tt
