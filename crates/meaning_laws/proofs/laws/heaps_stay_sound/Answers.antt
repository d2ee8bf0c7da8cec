use Rattle.meaning_laws.proofs.laws.heaps_stay_sound.Goals as goal
use Rattle.meaning_laws.proofs.Heaps.{objects_have_their_fields, addresses_keep_their_class, entry_points_run}

pub returns : goal.returns
returns c = record { fields = objects_have_their_fields; classes = addresses_keep_their_class; runs = entry_points_run }
