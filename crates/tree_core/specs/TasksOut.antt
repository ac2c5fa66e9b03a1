-- What is out to workers, by the events alone: for each of these there is room to come back.
use Rattle.std.specs.Prelude.{cond, List, [], ◌∷◌}
use Rattle.tree_model.specs.Events.{Event, Claim, Nodes, Empty, Collected, Lost, Suspend, Resume, Prune, Answer, Stop}
use Rattle.tree_model.specs.Levels.{Place, same_place}

abbrev pub without_place : Place → List Place → List Place
without_place a [] = []
without_place a (b ∷ places) = cond (same_place a b) places (b ∷ without_place a places)

abbrev pub out_by : Event → List Place → List Place
out_by (Claim w a) places = a ∷ places
out_by (Resume w a) places = a ∷ places
out_by (Suspend w a frozen) places = without_place a places
out_by (Nodes w a k sizes) places = without_place a places
out_by (Empty w a k) places = without_place a places
out_by (Collected w a k) places = without_place a places
out_by (Lost w a) places = without_place a places
out_by (Prune w a) places = without_place a places
out_by (Answer w a frozen) places = without_place a places
out_by (Stop w) places = places

abbrev pub out_after : List Event → List Place → List Place
out_after [] places = places
out_after (e ∷ es) places = out_after es (out_by e places)
