-- The parts of the question which term a projection has, and how what is found of them is merged.
use Rattle.std.specs.Prelude.{◌≡◌, ◌≢◌, ◌⊎◌, ℕ, List, [], ◌∷◌}
use Rattle.goal_terms.specs.Tree.{Tree, alias, forest}
use Rattle.goal_terms.specs.declared.answers.TraitGoalProvenVia.{TraitGoalProvenVia}
use Rattle.goal_terms.specs.declared.answers.TraitGoalProvenVia.TheVariants as class
use Rattle.goal_terms.specs.declared.terms.AliasTermKind.{AliasTermKind}
use Rattle.goal_tables.specs.declared.rows.ItemRow.{ItemRow}
use Rattle.goal_lists.specs.Candidates.{Candidate, second_group}
use Rattle.goal_lists.specs.ImplTerms.{Projection}
use Rattle.goal_lists.specs.Interned.{erased_at}
use Rattle.goal_lists.specs.Level.{Level, HasHeadForm, HeadFormRefuted}
use Rattle.goal_lists.specs.Projections.{GroupGives, GroupRefuted, GroupsGive, GroupsRefuted, OwnFormed, OwnUnformed}
use Rattle.goal_lists.specs.Settings.{Setting}
use Rattle.goal_lists.specs.Words.{Each, Exists}
use Rattle.goal_eval.specs.declared.eval.outcomes.Found as founds
use Rattle.goal_eval.specs.declared.eval.outcomes.Found.TheVariants as found

-- a list without its first element
abbrev pub rest_of : {A : Type 0} → List A → List A
rest_of [] = []
rest_of (x ∷ xs) = xs

-- what two candidates make together: those that give a term have to give one
abbrev pub MergesTo : List Tree → founds.Found → founds.Found → founds.Found → Type 0
MergesTo T found.Undecided g h = h ≡ found.Undecided
MergesTo T found.Refuted g h = h ≡ g
MergesTo T (found.Is a) found.Undecided h = h ≡ found.Undecided
MergesTo T (found.Is a) found.Refuted h = h ≡ found.Is a
MergesTo T (found.Is a) (found.Is b) h =
    ((h ≡ found.Is a) × (erased_at T a ≡ erased_at T b)) ⊎ ((h ≡ found.Undecided) × (erased_at T a ≢ erased_at T b))

-- terms that have head forms; one of them has none
abbrev pub IsFormed : Level → Tree → Type 0
IsFormed L t = (f : Tree) × HasHeadForm L t f

abbrev pub HaveHeadForms : Level → List Tree → Type 0
HaveHeadForms L ts = Each (IsFormed L) ts

abbrev pub SomeUnformed : Level → List Tree → Type 0
SomeUnformed L ts = Exists (HeadFormRefuted L) ts

-- a term, once the own arguments have head forms
abbrev pub FormedGives : Level → Projection → Tree → Tree → Type 0
FormedGives L p t u = (u ≡ t) × OwnFormed L p

-- the term of a projection where all candidates of the environment are refuted
abbrev pub LaterGives : Setting → Level → TraitGoalProvenVia → Projection → Tree → Tree → List Candidate → Tree → Type 0
LaterGives S L c p rigid_alias given second u =
    (GroupGives S L p rigid_alias second u × ((c ≡ class.Misc) ⊎ OwnFormed L p))
    ⊎ (GroupRefuted S L p second × (c ≢ class.Misc) × (u ≡ given))

abbrev pub LaterRefuted : Setting → Level → TraitGoalProvenVia → Projection → Tree → List Candidate → Type 0
LaterRefuted S L c p rigid_alias second =
    (GroupRefuted S L p second × (c ≡ class.Misc))
    ⊎ (((u : Tree) × GroupGives S L p rigid_alias second u) × (c ≢ class.Misc) × OwnUnformed L p)

-- the term of a projection whose trait goal holds through a class, for the head form of its self type
abbrev pub replaced : ItemRow → ℕ → Tree → List Tree → Projection
replaced q n s args = record { item = q; trait_params = n; args = s ∷ rest_of args }

abbrev pub ReplacedGives : Setting → Level → AliasTermKind → ItemRow → ℕ → TraitGoalProvenVia → List Tree → Tree → Tree → Type 0
ReplacedGives S L k q n c args s u =
    GroupsGive S L c (replaced q n s args) (alias k (forest (s ∷ rest_of args))) (alias k (forest args)) (second_group S q.trait_id s c) u

abbrev pub ReplacedRefuted : Setting → Level → AliasTermKind → ItemRow → ℕ → TraitGoalProvenVia → List Tree → Tree → Type 0
ReplacedRefuted S L k q n c args s = GroupsRefuted S L c (replaced q n s args) (alias k (forest (s ∷ rest_of args))) (second_group S q.trait_id s c)

-- the term of a projection whose trait goal holds through a class
abbrev pub ThroughGives : Setting → Level → AliasTermKind → ItemRow → ℕ → TraitGoalProvenVia → List Tree → Tree → Type 0
ThroughGives S L k q n c [] u = ⊥
ThroughGives S L k q n c (self ∷ args) u = (s : Tree) × HasHeadForm L self s × ReplacedGives S L k q n c (self ∷ args) s u

abbrev pub ThroughRefuted : Setting → Level → AliasTermKind → ItemRow → ℕ → TraitGoalProvenVia → List Tree → Type 0
ThroughRefuted S L k q n c [] = ⊥
ThroughRefuted S L k q n c (self ∷ args) = (s : Tree) × HasHeadForm L self s × ReplacedRefuted S L k q n c (self ∷ args) s
