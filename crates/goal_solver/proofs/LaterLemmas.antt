-- A response that can be applied to a context still can when more terms have numbers and more was recorded.
use Rattle.std.proofs.Common.{◌≡◌, ℕ, List, [], ◌∷◌, ◌++◌, length, refl, sym, ap, ◌∙◌, subst}
use Rattle.std.specs.Prelude.{◌↔◌, IsTrue}
use Rattle.goal_terms.specs.Erased.{erased}
use Rattle.goal_interner.specs.TableMeaning.{Keeps}
use Rattle.goal_terms.specs.Tree.{Tree, node_of}
use Rattle.goal_terms.specs.TreeOf.{tree_of_term}
use Rattle.goal_terms.specs.declared.answers.Response.{Response}
use Rattle.goal_terms.specs.declared.answers.VarKind.{VarKind}
use Rattle.goal_terms.specs.declared.heads.Variable.{Variable}
use Rattle.goal_terms.specs.declared.terms.Term.{Term}
use Rattle.goal_interner.proofs.InternLemmas.{keeps-refl}
use Rattle.goal_infer.specs.Inference.{Inference}
use Rattle.goal_infer.specs.Occurrence.{place_of}
use Rattle.goal_infer.specs.Replacement.{number_of, replaced, takes}
use Rattle.goal_infer.specs.Resolution.{Agrees, binding_of, resolution, IsSolved}
use Rattle.goal_infer.specs.Unification.{is_made_in}
use Rattle.goal_infer.proofs.SolvedLemmas.{agrees-kept}
use Rattle.goal_solver.specs.Binding.{bound_term, IsFreeFor, BindsTo, CanBeListed, IsApplicable}
use Rattle.goal_solver.specs.GoingBack.{restored}
use Rattle.goal_solver.specs.MergedRules.{IfAnswered}
use Rattle.goal_solver.specs.Relating.{AgreesWith}
use Rattle.goal_solver.specs.State.{State, kinds_in}
use Rattle.goal_solver.specs.Stored.{HasOneTypeAKey}
use Rattle.goal_solver.specs.Variables.{with_kinds, with_variables}
use Rattle.goal_solver.specs.declared.assembly.merged_rules.Merged.{Merged}
use Rattle.goal_solver.specs.declared.assembly.merged_rules.Merged.TheVariants as merged
use Rattle.goal_solver.proofs.ListedLemmas.{solved-with_kinds}
use Rattle.goal_solver.proofs.SinceMarkLemmas.{resolution-kept}

-- a state with the inference state of another, and with its terms
record IsLater (s z : State) : Type 0 where
  inference : z.inference ≡ s.inference
  terms : Keeps s.terms z.terms
  solved : IsSolved s.terms s.inference

-- the bindings stay the same
bound-later : (s z : State) → IsLater s z → (t : Tree) → bound_term z t ≡ bound_term s t
bound-later s z l t =
    ap (λ i. replaced (resolution z.terms i) (erased t)) l.inference ∙ ap (λ ρ. replaced ρ (erased t)) (resolution-kept s.terms z.terms s.inference l.terms l.solved)

agrees-later : (s z : State) → IsLater s z → (ρ : Variable → Tree) → AgreesWith z ρ ↔ AgreesWith s ρ
agrees-later s z l ρ =
    let k = agrees-kept s.terms z.terms s.inference l.terms l.solved ρ in
    (λ a. k.0 (subst (λ i. Agrees z.terms i ρ) l.inference a), λ a. subst (λ i. Agrees z.terms i ρ) (sym l.inference) (k.1 a))

free-later : (s z : State) → IsLater s z → (t : Tree) (v : Variable) → IsFreeFor s t v → IsFreeFor z t v
free-later s z l t v f = record {
  made = subst (λ i. IsTrue (is_made_in i v)) (sym l.inference) f.made;
  unbound = ap (λ i. binding_of i v) l.inference ∙ f.unbound;
  takes = subst (λ u. IsTrue (takes v (node_of u))) (sym (bound-later s z l t)) f.takes;
  absent = ap (place_of v) (bound-later s z l t) ∙ f.absent;
}

-- what binds a variable afterwards might have bound it before
binds-later : (s z u : State) → IsLater s z → (t : Tree) (v : Variable) → BindsTo z u t v → BindsTo s (record s { terms = u.terms; inference = u.inference }) t v
binds-later s z u l t v b = record {
  says = λ ρ. (
    λ a. let h = (b.says ρ).0 a in ((agrees-later s z l ρ).0 h.0, h.1),
    λ h. (b.says ρ).1 ((agrees-later s z l ρ).1 h.0, h.1),
  );
  trail = b.trail ∙ ap (λ (i : Inference). i.trail ++ number_of v ∷ []) l.inference;
  kinds = b.kinds ∙ ap (λ (i : Inference). kinds_in i.variables) l.inference;
  equations = b.equations ∙ ap (λ (i : Inference). i.equations) l.inference;
  alone = refl;
  solved = b.solved;
}

listed-later : (s z : State) → IsLater s z → (ps : List (ℕ × Term)) → CanBeListed s ps → CanBeListed z ps
unfolding CanBeListed
listed-later s z l [] h = h
listed-later s z l (p ∷ ps) h = (
  h.0,
  h.1,
  free-later s z l (tree_of_term p.1) h.0 h.2,
  λ u b.
      listed-later (record s { terms = u.terms; inference = u.inference }) u (record { inference = refl; terms = keeps-refl u.terms; solved = b.solved }) ps
      (h.3 (record s { terms = u.terms; inference = u.inference }) (binds-later s z u l (tree_of_term p.1) h.0 b)),
)

with_variables-later : (s z : State) (ks : List VarKind) → IsLater s z → IsLater (with_variables ks s) (with_variables ks z)
with_variables-later s z ks l = record { inference = ap (with_kinds ks) l.inference; terms = l.terms; solved = solved-with_kinds s.terms s.inference ks l.solved }

pub applies-later : (s z : State) (r : Response) → z.inference ≡ s.inference → z.storage ≡ s.storage → Keeps s.terms z.terms → IsSolved s.terms s.inference → IsApplicable s r → IsApplicable z r
applies-later s z r e f keeps solved h =
    let l : IsLater s z = record { inference = e; terms = keeps; solved = solved } in
    record {
      base = h.base ∙ ap (λ (i : Inference). length (kinds_in i.variables)) (sym l.inference);
      values = listed-later (with_variables r.vars.items s) (with_variables r.vars.items z) (with_variables-later s z r.vars.items l) r.var_values.items h.values;
      entries = subst (λ es. HasOneTypeAKey (es ++ r.opaque_entries.items)) (sym f) h.entries;
    }

-- so can what rules were merged to
pub merged-later : (s z : State) (m : Merged) → z ≡ restored s z → Keeps s.terms z.terms → IsSolved s.terms s.inference → IfAnswered m (IsApplicable s) → IfAnswered m (IsApplicable z)
merged-later s z merged.Refuted e keeps solved h = tt
merged-later s z (merged.Answered r) e keeps solved h = applies-later s z r (ap (λ (x : State). x.inference) e) (ap (λ (x : State). x.storage) e) keeps solved h
merged-later s z merged.Split e keeps solved h = tt
