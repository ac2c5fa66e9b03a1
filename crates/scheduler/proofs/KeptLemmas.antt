-- Kept regions while the tree changes.
use Rattle.std.proofs.Common.{Option, Some, None}
use Rattle.std.specs.Prelude.{IfSome}
use Rattle.region_split.specs.Texts.{TextView}
use Rattle.task_region.specs.KeptRegions.{KeptView, IsKeptIn, KeptRegionsStay}
use Rattle.tree_nodes.specs.Rows.{Rows}
use Rattle.tree_nodes.specs.Staying.{StayMade}

pub kept_on : KeptRegionsStay → (old new : Rows) (text : TextView) (kept : Option KeptView) → StayMade old new → IfSome kept (IsKeptIn old text) → IfSome kept (IsKeptIn new text)
kept_on law old new text None made h = tt
kept_on law old new text (Some k) made h = law old new text k made h
