use Rattle.std.proofs.Common.{Some, [], ◌∷◌, refl, sym, ap, ◌∙◌}
use Rattle.goal_lists.specs.Entries.{undecided}
use Rattle.goal_lists.specs.InternedEntries.{entries_at}
use Rattle.goal_lists.specs.TraitLists.{reserved_list}
use Rattle.goal_lists.proofs.ListPartLemmas.{joined-in, joined-at}
use Rattle.goal_lists.proofs.NamedRowLemmas.{joined-named}
use Rattle.goal_lists.proofs.lists.parts.reserved_list.Goals as goal

pub returns-in-Coherence-clause-within : goal.returns-in-Coherence-clause-within
returns-in-Coherence-clause-within c T here =
    joined-in T c.append.new.self.items c.in_ok-entries-in-Coherence.entries.items c.args.asked.items c.in_ok-append-in-Coherence.ensures.items
    (c.in_ok-entries-in-Coherence.ensures.within T) here

pub returns-in-Coherence-clause-list : goal.returns-in-Coherence-clause-list
returns-in-Coherence-clause-list c T =
    ap Some
    (joined-at T c.append.new.self.items c.in_ok-entries-in-Coherence.entries.items c.args.asked.items (undecided ∷ []) (entries_at T c.args.asked.items) c.in_ok-append-in-Coherence.ensures.items
    (c.in_ok-entries-in-Coherence.ensures.entries T) refl)
    ∙ ap (λ m. reserved_list m (entries_at T c.args.asked.items)) (sym c.in-Coherence.is)

pub returns-in-Coherence-clause-named : goal.returns-in-Coherence-clause-named
returns-in-Coherence-clause-named c t here =
    joined-named t c.append.new.self.items c.in_ok-entries-in-Coherence.entries.items c.args.asked.items c.in_ok-append-in-Coherence.ensures.items
    (c.in_ok-entries-in-Coherence.ensures.named t) here
