use Rattle.dart_printer.proofs.Possible.{are_possible}
use Rattle.dart_printer.proofs.read_back.tokens_of_texts_are_possible.Goals as goal

pub returns : goal.returns
returns c = are_possible
