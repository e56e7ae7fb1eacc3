-- What the names of a text stand for.
use Rattle.std.specs.Prelude.{Option, Some, None}
use Rattle.goal_terms.specs.declared.ids.ItemId.{ItemId}
use Rattle.goal_terms.specs.declared.ids.TraitId.{TraitId}
use Rattle.vurloske_names.specs.declared.definitions.Definition.{Definition}
use Rattle.vurloske_names.specs.declared.definitions.Definition.TheVariants as definition
use Rattle.vurloske_names.specs.declared.definitions.ItemKey.{ItemKey}
use Rattle.vurloske_names.specs.declared.definitions.Owners.{Owners}
use Rattle.vurloske_names.specs.declared.definitions.Owners.TheVariants as owners
use Rattle.vurloske_ast.specs.declared.ast.Symbol.{Symbol}

-- an item of a trait by its name
abbrev pub item_key : TraitId → Symbol → ItemKey
item_key id name = record { trait_id = id; name = name }

-- the trait that is defined, if one is
abbrev pub trait_defined : Definition → Option TraitId
trait_defined (definition.Trait id) = Some id
trait_defined _ = None

-- the item that is the only one of its name, if it is so
abbrev pub only_owned : Owners → Option ItemId
only_owned (owners.One id) = Some id
only_owned owners.Several = None
