-- What the host's calls answer, as document 01 numbers it ("Zero stands for success").
use Rattle.std.specs.Prelude.{ℕ, Result, Ok, Err}
use Rattle.machine.specs.declared.CallError.{CallError}
use Rattle.machine.specs.declared.CallError.TheVariants.{EmptyBurst, UnlistedAddress, OutsideRegister, LoadRefused, StartInUse, MemoryInUse, OutputHeld, TooManyBeats}

-- Whether a call did what it was asked, or why not.
abbrev pub Outcome : Type 0
Outcome = Result (Unit {0}) CallError

abbrev pub error_number_of : CallError → ℕ
error_number_of EmptyBurst = 1
error_number_of UnlistedAddress = 2
error_number_of OutsideRegister = 3
error_number_of LoadRefused = 4
error_number_of StartInUse = 5
error_number_of MemoryInUse = 6
error_number_of OutputHeld = 7
error_number_of TooManyBeats = 8

-- Of a call's answer, whatever it gives where it succeeds.
abbrev pub number_of : {A : Type 0} → Result A CallError → ℕ
number_of (Ok x) = 0
number_of (Err e) = error_number_of e
