-- A context with region variables more, and responses that change nothing but lifetimes.
use Rattle.std.proofs.Common.{◌≡◌, ℕ, zero, suc, true, List, [], ◌∷◌, ◌++◌, length, map, replicate, None, Result, Ok, Err, refl, sym, ap, ◌∙◌, subst}
use Rattle.std.specs.Prelude.{IsTrue}
use Rattle.goal_terms.specs.NodeTests.{is_made}
use Rattle.goal_terms.specs.declared.answers.Response.{Response}
use Rattle.goal_terms.specs.declared.answers.VarKind.{VarKind}
use Rattle.goal_terms.specs.declared.answers.VarKind.TheVariants as kind
use Rattle.goal_terms.specs.declared.heads.Variable.{Variable}
use Rattle.goal_infer.specs.Inference.{Inference}
use Rattle.goal_infer.specs.RegionEquations.{region_variable}
use Rattle.goal_infer.specs.Replacement.{number_of, kind_of_variable}
use Rattle.goal_infer.specs.Resolution.{binding_of}
use Rattle.goal_infer.specs.Unification.{is_made_in}
use Rattle.goal_infer.specs.declared.undo.InferVariable.{InferVariable}
use Rattle.goal_kinds.specs.declared.faults.Fault.{Fault}
use Rattle.goal_solver.specs.Answers.{IsQuiet, IsQuietAside, AnswersQuietly, AnswersAside}
use Rattle.goal_solver.specs.Variables.{unbound, with_kinds}
use Rattle.goal_solver.proofs.EquatedLemmas.{binding-added}

-- one that changes nothing but values lists no variable
pub is-aside : (n : ℕ) (r : Response) → IsQuiet n r → IsQuietAside n r
is-aside n r q = (q.0, q.1 ∙ ap (λ (ks : List VarKind). replicate (length ks) kind.Region) (sym q.1), q.3)

pub answers-aside : (n : ℕ) (r : Result Response Fault) → AnswersQuietly n r → AnswersAside n r
answers-aside n (Ok r) q = is-aside n r q
answers-aside n (Err f) q = tt

-- unbound variables of the kind
unbound-regions : (c : ℕ) → map unbound (replicate c kind.Region) ≡ replicate c region_variable
unbound-regions zero = refl
unbound-regions (suc c) = ap (λ vs. region_variable ∷ vs) (unbound-regions c)

-- what was made is made still
made-still : (vs ws : List InferVariable) (n : ℕ) (k : VarKind) → is_made (map (λ (v : InferVariable). v.kind) vs) n k ≡ true → is_made (map (λ (v : InferVariable). v.kind) (vs ++ ws)) n k ≡ true
made-still [] ws n k e = absurd (cc)
made-still (v ∷ vs) ws zero k e = e
made-still (v ∷ vs) ws (suc n) k e = made-still vs ws n k e

pub made-with : (i : Inference) (ks : List VarKind) (v : Variable) → IsTrue (is_made_in i v) → IsTrue (is_made_in (with_kinds ks i) v)
unfolding is_made_in
made-with i ks v e = made-still i.variables (map unbound ks) (number_of v) (kind_of_variable v) e

-- and what was unbound is unbound
pub unbound-with : (i : Inference) (ks : List VarKind) (v : Variable) → ks ≡ replicate (length ks) kind.Region → binding_of i v ≡ None → binding_of (with_kinds ks i) v ≡ None
unfolding binding_of
unbound-with i ks v regions e =
    subst (λ (ls : List VarKind). binding_of (with_kinds ls i) v ≡ None) (sym regions)
    (ap (λ ws. binding_of (record i { variables = i.variables ++ ws }) v) (unbound-regions (length ks)) ∙ binding-added i.variables (length ks) (number_of v) (kind_of_variable v) ∙ e)
