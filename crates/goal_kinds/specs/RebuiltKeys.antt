-- Entries for hidden types, as they are over numbers and as a rule has them.
use Rattle.std.specs.Prelude.{◌≡◌, ◌++◌, List, map, Option, Some, None, Vec}
use Rattle.std.specs.Global.{Global}
use Rattle.std.specs.List.{AllZip}
use Rattle.goal_interner.specs.TableMeaning.{tree_at}
use Rattle.goal_terms.specs.Tree.{Tree}
use Rattle.goal_terms.specs.TreeOf.{trees_of}
use Rattle.goal_terms.specs.declared.answers.Certainty.{Certainty}
use Rattle.goal_kinds.specs.CandidateRules.{after}
use Rattle.goal_kinds.specs.declared.rules.RuleEntry.{RuleEntry}
use Rattle.goal_kinds.specs.declared.rules.RuleEntry.TheVariants as entry
use Rattle.goal_lists.specs.declared.lists.InternedTerm.{InternedTerm}
use Rattle.goal_lists.specs.declared.lists.InternedTerm.TheVariants as terms
use Rattle.goal_lists.specs.declared.lists.InternedEntry.{InternedEntry}
use Rattle.goal_lists.specs.declared.lists.InternedEntry.TheVariants as entries

-- an entry for a hidden type is of the type and the arguments of one over numbers, lifetimes included
abbrev pub KeepsKeyOf : List Tree → InternedTerm → RuleEntry → Type 0
KeepsKeyOf T (terms.HiddenType i ids f r) (entry.HiddenType v k g) =
    (k.def_id ≡ i) × (g ≡ f) × (trees_of k.args.items ≡ map (tree_at T) ids.items)
KeepsKeyOf T (terms.HiddenType i ids f r) _ = ⊥
KeepsKeyOf T _ _ = Unit {0}

abbrev pub KeepsKey : List Tree → InternedEntry → RuleEntry → Type 0
KeepsKey T (entries.Expected e) x = KeepsKeyOf T e x
KeepsKey T _ _ = Unit {0}

-- the entries of a list are kept so, one by one, with nothing decided behind them by a certainty
abbrev pub KeepsKeys : List Tree → Certainty → Option (Vec InternedEntry Global) → List RuleEntry → Type 0
KeepsKeys T c None es = ⊥
KeepsKeys T c (Some xs) es = (made : List RuleEntry) × (es ≡ made ++ after c) × AllZip (KeepsKey T) xs.items made
