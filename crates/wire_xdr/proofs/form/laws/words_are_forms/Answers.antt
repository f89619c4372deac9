use Rattle.wire_xdr.specs.WordLaws.{word_is, hyper_is, signed_is, flag_is, count_is, fixed_is, opaque_is}
use Rattle.wire_xdr.proofs.form.laws.words_are_forms.Goals as goal

pub returns : goal.returns
returns c = record { word = word_is; hyper = hyper_is; signed = signed_is; flag = flag_is; count = count_is; fixed = fixed_is; opaque = opaque_is }
