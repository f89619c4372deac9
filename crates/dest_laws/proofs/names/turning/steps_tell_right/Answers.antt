use Rattle.std.specs.Prelude.{max}
use Rattle.dest_core.specs.Stepping.{around, copier_in}
use Rattle.dest_jobs.specs.Ending.{expires}
use Rattle.dest_laws.proofs.names.Caused.{within_caused}
use Rattle.dest_laws.proofs.names.Given.{can_commit, can_stop, within_after}
use Rattle.dest_laws.proofs.names.Small.{answers_small}
use Rattle.dest_laws.proofs.names.Turns.{failure_goes, reply_goes, tick_goes, work_goes}
use Rattle.dest_laws.proofs.names.turning.steps_tell_right.Goals as goal
use Rattle.dest_laws.specs.Names.Right.{IsSafe, TellsRight}
use Rattle.dest_work.specs.Work.{turn}
use Rattle.nfs_base.specs.declared.job.Stop.TheVariants.{LeaseExpired}
use Rattle.sess_slots.specs.Begins.{has_lapsed}

pub returns : goal.returns
returns g c = record {
  work = λ boot made safe codes started place now s before after t is own backs are within have gets.
      let a = around (max s.second now) s in
      let x = copier_in s in
      let done =
      work_goes codes (TellsRight boot made safe) _ started place now s before after t is own backs are (IsSafe boot made safe) (can_commit boot made safe a)
      (λ at.
      can_stop boot made safe a (turn codes.mic at x.principal s.state.sessions x.work x.copies.book).book.table
      (within_after boot made 0 x.copies.book (turn codes.mic at x.principal s.state.sessions x.work x.copies.book).book
      (c.steps_give_one_entry.ensures.due codes.mic at x.principal s.state.sessions x.work x.copies.book) within))
      gets have
      (λ at.
      within_caused 0 x.copies.book (turn codes.mic at x.principal s.state.sessions x.work x.copies.book).book
      (c.steps_give_one_entry.ensures.due codes.mic at x.principal s.state.sessions x.work x.copies.book) have)
      (λ y all u.
      within_caused 0 y.book (expires u.state.sessions u.second y).book
      (c.steps_give_one_entry.ensures.clients (λ client. has_lapsed u.state.sessions client u.second) LeaseExpired y) all) in
      (done.are, done.go, done.have);
  reply = λ boot made safe codes finish place message now s t is backs are within have all.
      let done =
      reply_goes codes (TellsRight boot made safe) finish place message now s t is backs are
      (can_stop boot made safe (around (max s.second now) s) (copier_in s).copies.book.table within) (λ u taken. answers_small codes finish place message (copier_in s) u all taken) have in
      (done.are, done.go, done.have);
  failure = λ boot made safe codes place s backs are within have.
      let done = failure_goes codes (TellsRight boot made safe) place s backs are (can_stop boot made safe (around s.second s) (copier_in s).copies.book.table within) have in
      (done.are, done.go, done.have);
  tick = λ boot made safe codes now s own backs are. tick_goes codes (TellsRight boot made safe) now s own backs are;
}
