-- Words on the candidates that are added over a table of terms.
use Rattle.std.specs.Prelude.{◌≡◌, ◌++◌, ℕ, List, map, filter, Option, Some, Result, Vec, slice_get, IfOk}
use Rattle.std.specs.Global.{Global}
use Rattle.goal_terms.specs.Tree.{Tree}
use Rattle.goal_terms.specs.declared.answers.TraitGoalProvenVia.{TraitGoalProvenVia}
use Rattle.goal_terms.specs.declared.ids.TraitId.{TraitId}
use Rattle.goal_terms.specs.declared.modes.TypingMode.{TypingMode}
use Rattle.goal_terms.specs.declared.predicates.Clause.{Clause}
use Rattle.goal_tables.specs.declared.rows.ConstBounds.{ConstBounds}
use Rattle.goal_tables.specs.declared.rows.ImplRow.{ImplRow}
use Rattle.goal_tables.specs.declared.rows.Tables.{Tables}
use Rattle.goal_lists.specs.Answers.{setting_of, environment_of}
use Rattle.goal_lists.specs.Candidates.{Candidate, assumption, by_impl, bounds_under, const_bounds_under}
use Rattle.goal_lists.specs.Fitting.{trees_at, fitting, About, near, class_fitting}
use Rattle.goal_lists.specs.Interned.{erased_at, candidate_at}
use Rattle.goal_lists.specs.Settings.{Setting}
use Rattle.goal_lists.specs.declared.candidates.interned.InternedCandidate.{InternedCandidate}
use Rattle.goal_lists.specs.declared.candidates.lists.Sought.{Sought}

-- candidates are added behind those that were found, as the table that has grown meanwhile tells
abbrev pub AddsCandidates : List Tree → List Tree → Vec InternedCandidate Global → Vec InternedCandidate Global → List Candidate → Type 0
AddsCandidates T U old new xs = map (candidate_at U) new.items ≡ map (candidate_at T) old.items ++ xs

-- those of the impls among them that may fit given arguments, which no table tells
abbrev pub AddsImpls : List Tree → Vec InternedCandidate Global → Vec InternedCandidate Global → List Tree → List ImplRow → Type 0
AddsImpls T old new args rows = AddsCandidates T T old new (fitting args (map by_impl rows))

-- unless memory is wanting, a function gives candidates
abbrev pub GivesCandidates : {E : Type 0} → List Tree → Result (Vec InternedCandidate Global) E → List Candidate → Type 0
GivesCandidates T result xs = IfOk result (λ cs. map (candidate_at T) cs.items ≡ xs)

-- the bounds and the const bounds of a row under arguments
abbrev pub row_bounds : List Tree → List Clause → Option ConstBounds → List Candidate
row_bounds s clauses const_bounds = bounds_under s clauses ++ const_bounds_under s const_bounds

-- of the candidates for a trait and a self type that are sought, those that may fit the arguments
abbrev pub fitting_for : List Tree → Sought → (TraitId → Tree → List Candidate) → List Candidate
fitting_for T s f = fitting (trees_at T s.args.now) (f s.trait_id (erased_at T s.self_ty))

-- what is sought, over trees
abbrev pub about : List Tree → Sought → About
about T s = record { trait_id = s.trait_id; item = s.item; args = trees_at T s.args.now }

-- those of a list that may be about what is sought
abbrev pub near_for : List Tree → Sought → List Candidate → List Candidate
near_for T s xs = filter (near (about T s)) xs

-- the clauses of an environment among them
abbrev pub environment_near : List Tree → Sought → List Clause → List Candidate
environment_near T s env = near_for T s (map assumption (environment_of env))

-- those of a class that are looked at
abbrev pub class_for : List Tree → Sought → Setting → TraitGoalProvenVia → List Candidate
class_for T s S c = class_fitting S (erased_at T s.self_ty) (about T s) c

-- for all impls that stand at some places of the tables
abbrev pub ForImplsAt : Tables → List ℕ → (List ImplRow → Type 0) → Type 0
ForImplsAt t places P = (impls : List ImplRow) → map (slice_get t.impls.items) places ≡ map Some impls → P impls

-- for all settings over some tables
abbrev pub ForEachSetting : Tables → (Setting → Type 0) → Type 0
ForEachSetting t P = (m : TypingMode) (env : List Clause) → P (setting_of t m env)
