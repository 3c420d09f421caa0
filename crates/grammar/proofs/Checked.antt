-- Every form of the grammar is sound, by computation.
use Prim.Native.Nat.{ℕ}
use Prim.Native.String.{String}
use mathlib.Core.Bool.{true}
use mathlib.Core.List.{[], map}
use mathlib.Core.Path.{◌≡◌, refl}
use Rattle.text.specs.Bytes.{ascii, same, lacks, is_keyword}
use Rattle.word.specs.Profile.{Profile, LP5523}
use Rattle.grammar.specs.Form.{keyword, Pair, place_of, read_keyword}
use Rattle.grammar.specs.Grammar.{OpLine, op_lines, plan_form, op_names, op_form, word_form}
use Rattle.grammar.proofs.Every.{every_at}
use Rattle.grammar.proofs.Places.{own_places}
use Rattle.grammar.proofs.Sound.{printed, sound_kind, sound_pair, sound_form}

-- The pair that names an operation.
abbrev pub op_pair : Profile → Pair
op_pair P = record { key = ascii "op"; kind = keyword (op_names P) }

pub sound_name : (P : Profile) → sound_pair (op_pair P) ≡ true
unfolding op_names sound_kind own_places read_keyword place_of same is_keyword lacks
sound_name LP5523 = refl

pub sound_op : (P : Profile) (o : ℕ) → sound_form (op_form P o) ≡ true
unfolding op_form sound_kind own_places read_keyword place_of same is_keyword lacks
sound_op LP5523 o = every_at sound_form (map (λ (l : OpLine). l.form) (op_lines LP5523)) [] o refl refl

pub sound_plan : (P : Profile) (i : ℕ) → sound_form (plan_form P i) ≡ true
unfolding plan_form sound_kind own_places read_keyword place_of same is_keyword lacks
sound_plan P i = refl

pub sound_word : (k : String) → printed (ascii k) ≡ true → sound_form (word_form k) ≡ true
unfolding word_form sound_kind
sound_word k h = rw h
