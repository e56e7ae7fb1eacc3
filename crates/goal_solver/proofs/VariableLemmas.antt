-- What fresh variables do to a context.
use Rattle.std.proofs.Common.{◌≡◌, ℕ, suc, ◌+◌, ◌<◌, List, [], ◌∷◌, ◌++◌, length, map, take, get_or, refl, sym, ap, ◌∙◌, subst, arith, append_assoc}
use Rattle.std.specs.Prelude.{Result, Ok, Err, OnErr}
use Rattle.std.proofs.lemmas.List.{map-append, length-map, length-append}
use Rattle.std.proofs.Math.Seq.{take-length, take-append_seam, drop-length}
use Rattle.goal_terms.specs.Tree.{Tree}
use Rattle.goal_terms.specs.declared.answers.ParamKind.{ParamKind}
use Rattle.goal_terms.specs.declared.answers.VarKind.{VarKind}
use Rattle.goal_infer.specs.Inference as inference
use Rattle.goal_infer.specs.Inference.{Inference}
use Rattle.goal_infer.specs.Undo as undo
use Rattle.goal_infer.specs.declared.undo.InferVariable.{InferVariable}
use Rattle.goal_infer.specs.Resolution.{IsSolved}
use Rattle.goal_infer.proofs.SolvedLemmas.{solved-more}
use Rattle.goal_infer.proofs.UndoLemmas.{state-is}
use Rattle.goal_kinds.proofs.ClassRuleLemmas.{take-more}
use Rattle.goal_solver.specs.GoingBack.{GoesBack, restored}
use Rattle.goal_solver.specs.State.{State, kinds_in, kinds_of}
use Rattle.goal_solver.specs.Variables.{unbound, with_kinds, with_variables, kind_for, fresh_arg, fresh_args}
use Rattle.goal_solver.proofs.GoingBackLemmas.{goes_back-same}

-- inference with fresh variables goes back
inference-with_kinds : (s : Inference) (ks : List VarKind) → inference.GoesBack s (with_kinds ks s)
unfolding inference.GoesBack undo.unbound
inference-with_kinds s ks =
    state-is _ _ _ s
    (ap (λ z. take (length s.variables) (undo.unbound z (s.variables ++ map unbound ks))) (drop-length s.trail) ∙ take-append_seam s.variables (map unbound ks))
    (take-length s.trail) (take-length s.equations)

-- and so does a context
pub goes_back-variables : (s : State) (ks : List VarKind) → GoesBack s (with_variables ks s)
goes_back-variables s ks =
    let same = goes_back-same s in
    record {
      tables = refl;
      typing_mode = refl;
      remaining_depth = refl;
      stop_on_rerun = refl;
      terms = same.terms;
      inference = inference-with_kinds s.inference ks;
      goals = same.goals;
      taken = same.taken;
      storage = same.storage;
      accesses = same.accesses;
      delayed_faults = same.delayed_faults;
      mark = refl;
    }

pub goes_back-when_made : (s z : State) (ks : List VarKind) → z ≡ with_variables ks s → GoesBack s z
goes_back-when_made s z ks e = subst (GoesBack s) (sym e) (goes_back-variables s ks)

-- fresh variables are made in any pieces
pub with_variables-append : (ks ms : List VarKind) (s : State) → with_variables ms (with_variables ks s) ≡ with_variables (ks ++ ms) s
with_variables-append ks ms s =
    ap (λ vs. record s { inference = record s.inference { variables = vs } })
    (append_assoc s.inference.variables (map unbound ks) (map unbound ms) ∙ ap (λ vs. s.inference.variables ++ vs) (sym (map-append unbound ks ms)))

pub made-further : (s a b : State) (ks ms : List VarKind) → a ≡ with_variables ks s → b ≡ with_variables ms a → b ≡ with_variables (ks ++ ms) s
made-further s a b ks ms e h = h ∙ ap (with_variables ms) e ∙ with_variables-append ks ms s

-- how many variables there are then
pub count-with_variables : (ks : List VarKind) (s : State) → length (kinds_of (with_variables ks s)) ≡ length (kinds_of s) + length ks
count-with_variables ks s =
    length-map (s.inference.variables ++ map unbound ks) (λ (v : InferVariable). v.kind)
    ∙ length-append s.inference.variables (map unbound ks)
    ∙ ap (λ n. n + length (map unbound ks)) (sym (length-map s.inference.variables (λ (v : InferVariable). v.kind)))
    ∙ ap (λ n. length (kinds_of s) + n) (length-map ks unbound)

-- a fresh argument after others has a number after theirs
pub fresh_args-append : (ks : List ParamKind) (k : ParamKind) (n : ℕ) →
    fresh_args (ks ++ k ∷ []) n ≡ fresh_args ks n ++ fresh_arg k (n + length ks) ∷ []
fresh_args-append [] k n = ap (λ m. fresh_arg k m ∷ []) (omega arith)
fresh_args-append (j ∷ js) k n =
    ap (λ ts. fresh_arg j n ∷ ts) (fresh_args-append js k (suc n) ∙ ap (λ m. fresh_args js (suc n) ++ fresh_arg k m ∷ []) (omega arith))

-- one more argument, in the order of the parameters
pub made-more : (s a b : State) (ps : List ParamKind) (i : ℕ) (d : ParamKind) → i < length ps →
    a ≡ with_variables (map kind_for (take i ps)) s → b ≡ with_variables (kind_for (get_or ps i d) ∷ []) a →
    b ≡ with_variables (map kind_for (take (i + 1) ps)) s
made-more s a b ps i d h e g =
    made-further s a b (map kind_for (take i ps)) (kind_for (get_or ps i d) ∷ []) e g
    ∙ ap (λ ks. with_variables ks s) (sym (ap (map kind_for) (take-more ps i d h) ∙ map-append kind_for (take i ps) (get_or ps i d ∷ [])))

pub fresh-more : (s a : State) (ps : List ParamKind) (i : ℕ) (d : ParamKind) (ts us : List Tree) (t : Tree) → i < length ps →
    a ≡ with_variables (map kind_for (take i ps)) s → ts ≡ fresh_args (take i ps) (length (kinds_of s)) →
    t ≡ fresh_arg (get_or ps i d) (length (kinds_of a)) → us ≡ ts ++ t ∷ [] →
    us ≡ fresh_args (take (i + 1) ps) (length (kinds_of s))
fresh-more s a ps i d ts us t h e f g u =
    let count : length (kinds_of a) ≡ length (kinds_of s) + length (take i ps) =
    ap (λ z. length (kinds_of z)) e ∙ count-with_variables (map kind_for (take i ps)) s
    ∙ ap (λ n. length (kinds_of s) + n) (length-map (take i ps) kind_for) in
    u ∙ ap (λ z. z ++ t ∷ []) f
    ∙ ap (λ z. fresh_args (take i ps) (length (kinds_of s)) ++ z ∷ []) (g ∙ ap (fresh_arg (get_or ps i d)) count)
    ∙ sym (ap (λ qs. fresh_args qs (length (kinds_of s))) (take-more ps i d h) ∙ fresh_args-append (take i ps) (get_or ps i d) (length (kinds_of s)))

-- a rollback after some were made gives the context before
pub restored-variables : (s a : State) (ks : List VarKind) → a ≡ with_variables ks s → restored s a ≡ s
restored-variables s a ks e = ap (restored s) e

-- a solved state with a fresh variable is solved
pub solved-made : (T : List Tree) (s z : Inference) (k : VarKind) → z ≡ record s { variables = s.variables ++ unbound k ∷ [] } → IsSolved T s → IsSolved T z
solved-made T s z k e solved = subst (IsSolved T) (sym e) (solved-more T s (unbound k) refl solved)

-- one more kind is no more than there may be, and in step with one more variable
pub kinds-fewer : (ks ms : List VarKind) (k : VarKind) → ms ≡ ks ++ k ∷ [] → length ks < 4294967295 → length ms < 4294967296
kinds-fewer ks ms k e h = omega (arith, ap length e, length-append ks (k ∷ []), h)

pub kinds-pushed : (ks ms : List VarKind) (k : VarKind) (s z : Inference) → ms ≡ ks ++ k ∷ [] → ks ≡ kinds_in s.variables →
    z ≡ record s { variables = s.variables ++ unbound k ∷ [] } → ms ≡ kinds_in z.variables
kinds-pushed ks ms k s z e h q =
    e ∙ ap (λ n. n ++ k ∷ []) h ∙ sym (map-append (λ (v : InferVariable). v.kind) s.variables (unbound k ∷ [])) ∙ sym (ap (λ (i : Inference). kinds_in i.variables) q)

-- what holds holds of an error, if there is one
pub on_err : {T E P : Type 0} (r : Result T E) → P → OnErr r P
on_err (Ok x) p = tt
on_err (Err e) p = p
