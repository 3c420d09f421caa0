-- "A new chip is all zero."
use Rattle.std.specs.Prelude.{false, replicate}
use Rattle.word.specs.Profile.{Profile, words_of, engines_of, outputs_of}
use Rattle.machine.specs.declared.Chip.{Chip}
use Rattle.machine.specs.Parts.{zero_engine}

abbrev pub new_chip : Profile → Chip
new_chip P =
    record {
      enabled = false;
      c = 0;
      d = 0;
      page = 0;
      memory = replicate (words_of P) 0;
      outputs = replicate (outputs_of P) (record { level = 0 });
      engines = replicate (engines_of P) (zero_engine P);
    }
