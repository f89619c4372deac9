-- What an adapter shows: the reader or writer of std that it is round, and the count of its faults.
use Rattle.std.specs.Prelude.{ℕ}
use Rattle.streams.specs.declared.adapters.Reading.{Reading}
use Rattle.streams.specs.declared.adapters.Writing.{Writing}

abbrev pub reader_of : {R : Type 0} → Reading R → R
reader_of source = source.inner

abbrev pub writer_of : {W : Type 0} → Writing W → W
writer_of sink = sink.inner

abbrev pub read_faults : {R : Type 0} → Reading R → ℕ
read_faults source = source.faults

abbrev pub write_faults : {W : Type 0} → Writing W → ℕ
write_faults sink = sink.faults
