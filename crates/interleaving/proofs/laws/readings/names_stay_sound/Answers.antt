use Rattle.std.specs.Prelude.{[]}
use Rattle.interleaving.proofs.SoundEarlyLemmas.{sound_exchange, sound_cut, sound_gate, sound_gate_in_place}
use Rattle.interleaving.proofs.laws.readings.names_stay_sound.Goals as goal

pub returns : goal.returns
returns c = record { exchange = sound_exchange []; cut = sound_cut; gate = sound_gate; gate_in_place = sound_gate_in_place }
