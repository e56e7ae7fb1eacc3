-- What binding a variable does to a context.
use Rattle.std.proofs.Common.{◌≡◌, List, [], ◌∷◌, map, refl, sym, ap, ◌∙◌, subst}
use Rattle.std.specs.Prelude.{IsTrue, Result, Ok, Err, OnOk}
use Rattle.std.specs.List.{AllZip}
use Rattle.goal_terms.specs.Erased.{erased}
use Rattle.goal_interner.specs.TableMeaning.{tree_at, Keeps}
use Rattle.goal_terms.specs.Tree.{Tree, node_of}
use Rattle.goal_terms.specs.declared.heads.Variable.{Variable}
use Rattle.goal_interner.specs.declared.term_nodes.TermId.{TermId}
use Rattle.goal_infer.specs.Binding.{IsBound}
use Rattle.goal_infer.specs.Inference.{Inference}
use Rattle.goal_infer.specs.Occurrence.{place_of}
use Rattle.goal_infer.specs.Replacement.{replaced, takes}
use Rattle.goal_infer.specs.Resolution.{term_at, resolved, IsSolved}
use Rattle.goal_infer.specs.Unification.{Advances, IsUnified, Becomes}
use Rattle.goal_infer.specs.declared.occurs.Occurrence.TheVariants.{Nowhere}
use Rattle.goal_infer.specs.declared.unify.Unified.TheVariants.{Yes}
use Rattle.goal_infer.proofs.SolvedLemmas.{resolution-as, agrees-kept}
use Rattle.goal_solver.specs.Binding.{bound_term, IsFreeFor, BindsTo}
use Rattle.goal_solver.specs.State.{State}

-- what holds of an answer, if there is one, and gives more
pub on_ok-map : {T E P Q : Type 0} (r : Result T E) → (P → Q) → OnOk r P → OnOk r Q
on_ok-map (Ok x) f p = f p
on_ok-map (Err e) f p = tt

-- with more terms, the bindings make of a term what they made of it
bound_term-kept : (s : State) (U : List Tree) (t : Tree) → Keeps s.terms U → IsSolved s.terms s.inference → bound_term (record s { terms = U }) t ≡ bound_term s t
unfolding term_at
bound_term-kept s U t keeps solved =
    ap (λ r. replaced r (erased t))
    (resolution-as s.terms U s.inference s.inference (λ v. refl) (λ v id f. ap erased (keeps.same id (solved.within v id f))) refl)

-- a variable that is free for a term stays so
pub free-kept : (s z : State) (U : List Tree) (t : Tree) (v : Variable) → z ≡ record s { terms = U } → Keeps s.terms U → IsSolved s.terms s.inference →
    IsFreeFor s t v → IsFreeFor z t v
free-kept s z U t v e keeps solved free =
    let same : bound_term (record s { terms = U }) t ≡ bound_term s t = bound_term-kept s U t keeps solved in
    let grown : IsFreeFor (record s { terms = U }) t v = record {
      made = free.made;
      unbound = free.unbound;
      takes = subst (λ b. IsTrue (takes v (node_of b))) (sym same) free.takes;
      absent = ap (place_of v) same ∙ free.absent;
    } in
    subst (λ a. IsFreeFor a t v) (sym e) grown

-- what is bound after more terms have their numbers
pub binds-kept : (s y z : State) (U : List Tree) (t : Tree) (v : Variable) → y ≡ record s { terms = U } → Keeps s.terms U → IsSolved s.terms s.inference →
    BindsTo y z t v → BindsTo s z t v
binds-kept s y z U t v e keeps solved binds =
    let grown : BindsTo (record s { terms = U }) z t v = subst (λ a. BindsTo a z t v) e binds in
    record {
      says = λ ρ. (
        λ a. (((agrees-kept s.terms U s.inference keeps solved ρ).0 ((grown.says ρ).0 a).0), ((grown.says ρ).0 a).1),
        λ p. (grown.says ρ).1 (((agrees-kept s.terms U s.inference keeps solved ρ).1 p.0), p.1),
      );
      trail = grown.trail;
      kinds = grown.kinds;
      equations = grown.equations;
      solved = grown.solved;
      alone = grown.alone;
    }

-- what is asked of a binding
pub takes-resolved : (o s : State) (id : TermId) (v : Variable) → o ≡ s → IsFreeFor s (tree_at s.terms id) v → IsTrue (takes v (node_of (resolved o.terms o.inference id)))
unfolding resolved term_at
takes-resolved o s id v e free = subst (λ (a : State). IsTrue (takes v (node_of (bound_term a (tree_at a.terms id))))) (sym e) free.takes

pub absent-resolved : (o s : State) (id : TermId) (v : Variable) → o ≡ s → IsFreeFor s (tree_at s.terms id) v → place_of v (resolved o.terms o.inference id) ≡ Nowhere
unfolding resolved term_at
absent-resolved o s id v e free = subst (λ (a : State). place_of v (bound_term a (tree_at a.terms id)) ≡ Nowhere) (sym e) free.absent

-- what it gives
pub binds-bound : (o s z : State) (i : Inference) (id : TermId) (v : Variable) → o ≡ s → z ≡ record o { inference = i } →
    Advances o.terms o.inference i → IsUnified o.terms o.inference i (Becomes o.terms v id) Yes → IsBound o.terms o.inference i v id → BindsTo s z (tree_at s.terms id) v
unfolding IsUnified term_at
binds-bound o s z i id v e f advances answer bound =
    let made : BindsTo o (record o { inference = i }) (tree_at o.terms id) v = record {
      says = answer;
      trail = ap (λ (n : Inference). n.trail) bound.state;
      kinds = advances.kinds;
      equations = ap (λ (n : Inference). n.equations) bound.state;
      solved = advances.solved;
      alone = refl;
    } in
    subst (λ (a : State). BindsTo a z (tree_at a.terms id) v) e (subst (λ b. BindsTo o b (tree_at o.terms id) v) (sym f) made)

-- a variable that is free for a term is free for what has its number
pub free-interned : (o s : State) (U : List Tree) (t u : Tree) (v : Variable) → o ≡ s → u ≡ t → Keeps o.terms U → IsSolved o.terms o.inference →
    IsFreeFor s t v → IsFreeFor (record o { terms = U }) u v
free-interned o s U t u v e f keeps solved free =
    free-kept o (record o { terms = U }) U u v refl keeps solved (subst (λ (a : State). IsFreeFor a u v) (sym e) (subst (λ b. IsFreeFor s b v) (sym f) free))

-- and what is bound to that is bound to the term
pub binds-interned : {T E : Type 0} (r : Result T E) (o s z : State) (U : List Tree) (t u : Tree) (v : Variable) → o ≡ s → u ≡ t → Keeps o.terms U → IsSolved o.terms o.inference →
    OnOk r (BindsTo (record o { terms = U }) z u v) → OnOk r (BindsTo s z t v)
binds-interned r o s z U t u v e f keeps solved bound =
    on_ok-map r
    (λ b. subst (λ (a : State). BindsTo a z t v) e (subst (λ x. BindsTo o z x v) f (binds-kept o (record o { terms = U }) z U u v refl keeps solved b)))
    bound

-- what is the same of a clone is the same of a list of clones
pub zip-map : {A B : Type 0} (R : A → A → Type 0) (f : A → B) → ((x y : A) → R x y → f y ≡ f x) → (xs ys : List A) → AllZip R xs ys → map f ys ≡ map f xs
zip-map R f same [] [] h = refl
zip-map R f same [] (y ∷ ys) h = absurd h
zip-map R f same (x ∷ xs) [] h = absurd h
zip-map R f same (x ∷ xs) (y ∷ ys) h = ap (λ z. z ∷ map f ys) (same x y h.0) ∙ ap (λ zs. f x ∷ zs) (zip-map R f same xs ys h.1)
