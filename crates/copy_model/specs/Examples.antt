-- Small runs, written by hand. One copies two bytes, commits them, reports them as stable, and crashes;
-- each of the others departs from it in one way, and breaks the promise. Own examples.
use Rattle.std.specs.Prelude.{true, false, List, [], ◌∷◌, length, slice_index_or}
use Rattle.copy_model.specs.Job.{Plan}
use Rattle.copy_model.specs.Volume.{Volume, formatted, write, commit, Old, crash}
use Rattle.copy_model.specs.Moment.{Copy, Did, Rested, Landed, Crashed, Moment, History, seen_source, seen_dest}

-- The source's file 1 holds the bytes 7 and 8. They go to offset 3 of the destination's file 1.
abbrev pub plan : Plan
plan = record { src_file = 1; src_off = 0; dst_file = 1; dst_off = 3; count = 2; consecutive = true }

abbrev pub source : Volume
source = write (formatted 1 64) 1 0 (7 ∷ 8 ∷ [])

-- The destination's volume: empty, with the two bytes landed, and with them committed.
abbrev pub empty : Volume
empty = formatted 1 64

abbrev pub landed : Volume
landed = write empty 1 3 (7 ∷ 8 ∷ [])

abbrev pub safe : Volume
safe = commit landed 1

-- The copy, as it goes on.
abbrev pub accepted : Copy
accepted = record { plan = plan; len = 0; stopped = false; completed = false; stable = false }

abbrev pub sized : Copy
sized = record accepted { len = 2 }

abbrev pub completed : Copy
completed = record sized { completed = true }

abbrev pub reported : Copy
reported = record completed { stable = true }

-- a moment with the copies that were accepted so far
abbrev pub moment_of : (dest bare : Volume) → List Copy → Did → Moment
moment_of dest bare copies did =
    record {
      source = seen_source source;
      dest = seen_dest dest;
      bare = seen_dest bare;
      made = length copies;
      copy = λ j. slice_index_or copies j accepted;
      did = did;
    }

-- The moments of the good run, in order. No write but the copy's reaches the destination, so that it
-- would stay empty without the copy.
abbrev pub at_start : Moment
at_start = moment_of empty empty [] Rested

abbrev pub at_accept : Moment
at_accept = moment_of empty empty (accepted ∷ []) Rested

abbrev pub at_size : Moment
at_size = moment_of empty empty (sized ∷ []) Rested

abbrev pub at_landing : Moment
at_landing = moment_of landed empty (sized ∷ []) (Landed 0 0 2)

abbrev pub at_commit : Moment
at_commit = moment_of safe (commit empty 1) (completed ∷ []) Rested

abbrev pub at_report : Moment
at_report = moment_of safe (commit empty 1) (reported ∷ []) Rested

abbrev pub at_crash : Moment
at_crash = moment_of (crash safe Old) (crash (commit empty 1) Old) (reported ∷ []) Crashed

abbrev pub at_rest : Moment
at_rest = record at_crash { did = Rested }

-- a run of these moments, which rests at the last one
abbrev pub run_of : List Moment → Moment → History
run_of moments last = λ k. slice_index_or moments k last

-- the good run: accepted, sized, landed, committed, reported as stable, and the destination crashes
abbrev pub good : History
good = run_of (at_start ∷ at_accept ∷ at_size ∷ at_landing ∷ at_commit ∷ at_report ∷ at_crash ∷ []) at_rest

-- Reported as stable though nothing was committed: a crash leaves the old bytes.
abbrev pub uncommitted : History
uncommitted =
    run_of
    (at_start ∷ at_accept ∷ at_size ∷ at_landing ∷ record at_commit { dest = at_landing.dest } ∷ [])
    (record at_report { dest = at_landing.dest })

-- Completed and reported as stable though the copy was never sized: neither of its two bytes landed.
abbrev pub unsized : History
unsized =
    run_of
    (at_start ∷ at_accept ∷ moment_of (commit empty 1) (commit empty 1) (record accepted { completed = true } ∷ []) Rested ∷ [])
    (moment_of (commit empty 1) (commit empty 1) (record accepted { completed = true; stable = true } ∷ []) Rested)

-- After the report a byte becomes 9, and no WRITE was there.
abbrev pub changed : History
changed =
    run_of
    (at_start ∷ at_accept ∷ at_size ∷ at_landing ∷ at_commit ∷ at_report ∷ [])
    (record at_report { dest = seen_dest (write safe 1 3 (9 ∷ [])) })

-- the good run up to its report, had the landing left this volume
abbrev pub with_landing : Volume → History
with_landing v =
    run_of
    (at_start ∷ at_accept ∷ at_size ∷ record at_landing { dest = seen_dest v } ∷ record at_commit { dest = seen_dest (commit v 1) } ∷ [])
    (record at_report { dest = seen_dest (commit v 1) })

-- A 9 landed, and the source never held one.
abbrev pub never_held : History
never_held = with_landing (write empty 1 3 (9 ∷ 8 ∷ []))

-- The landing moved a byte behind the copy's range.
abbrev pub spilled : History
spilled = with_landing (write empty 1 3 (7 ∷ 8 ∷ 9 ∷ []))

-- The new volume holds a byte that isn't 0, with and without the copy.
abbrev pub unclean : History
unclean =
    run_of
    []
    (record at_start { dest = seen_dest (write empty 1 9 (5 ∷ [])); bare = seen_dest (write empty 1 9 (5 ∷ [])) })

abbrev pub stopped : Copy
stopped = record sized { stopped = true }

-- The copy is stopped once it is sized, and its chunk lands all the same.
abbrev pub late_landing : History
late_landing =
    run_of
    (at_start ∷ at_accept ∷ at_size ∷ moment_of empty empty (stopped ∷ []) Rested ∷ moment_of landed empty (stopped ∷ []) (Landed 0 0 2) ∷ [])
    (moment_of landed empty (stopped ∷ []) Rested)

-- The copy is stopped once its chunk has landed, and is committed all the same.
abbrev pub late_commit : History
late_commit =
    run_of
    (at_start ∷ at_accept ∷ at_size ∷ at_landing ∷ moment_of landed empty (stopped ∷ []) Rested ∷ [])
    (moment_of safe (commit empty 1) (record stopped { completed = true } ∷ []) Rested)
