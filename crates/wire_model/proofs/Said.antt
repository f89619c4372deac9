-- What the client says of its copies is so.
use Rattle.std.proofs.Common.{◌≡◌, ⊎_elim, ℕ, zero, suc, ◌<◌, ◌≤◌, true, Option, Some, List, sym, ◌∙◌, ap, subst, arith}
use Rattle.std.proofs.lemmas.Bool.{both_ways, cases_lt}
use Rattle.copy_model.specs.Volume.{file_at}
use Rattle.copy_model.specs.Job.{Plan}
use Rattle.copy_model.specs.Promise.{IsDuring, IsStill}
use Rattle.nfs_base.specs.declared.job.JobName.{JobName}
use Rattle.nfs_base.specs.declared.seal.End.{End}
use Rattle.nfs_base.specs.declared.seal.End.TheVariants.{Source, Dest, Client}
use Rattle.wire_model.specs.Spelling.{Context, Spelling}
use Rattle.wire_model.specs.Meaning.{Meaning}
use Rattle.wire_model.specs.Wire.{Wire, Purpose, ForFirst, ForLast, Call}
use Rattle.wire_model.specs.Told.{WasTold}
use Rattle.wire_model.specs.Word.{First}
use Rattle.wire_model.specs.System.{System, wire_of, plan_at, history}
use Rattle.wire_model.specs.CopyLaws.{IsAnswerFor}
use Rattle.wire_model.specs.NameLaws.{IsReported}
use Rattle.wire_model.specs.WordLaws.{IsFirst, IsNamed, Reports, Calls, Holds, Completes, IsSaidStable, IsSaidExact}
use Rattle.wire_model.specs.WordKept.{IsJobOf, IsRightlyExact, IsWordKept}
use Rattle.wire_model.specs.Lawful.{IsLawfulSystem, IsTruthful}
use Rattle.wire_model.proofs.Ends.{from_on}
use Rattle.wire_model.proofs.Below.{Below}
use Rattle.wire_model.proofs.Answered.{answers_told}
use Rattle.wire_model.proofs.Jobs.{made_rises, plan_stays, moment_laws}
use Rattle.wire_model.proofs.Steps.{source_run}
use Rattle.wire_model.proofs.Names.{name_stays, one_job, reported_stays, called_back, held_reported}

-- The source told this change attribute of a file in the opening that made a root, in answer to a call that was sent
-- when its purpose was ready.
record WasChange (s : System) (k : ℕ) (purpose : Purpose) (root : Context) (file change : ℕ) : Type 0 where
  sent : ℕ
  ready : (s.caller Source Client (suc sent)).ready purpose ≡ true
  step : ℕ
  after : sent < step
  before : step < k
  boot : (s.server Source step).boot ≡ root.boot
  is : (file_at (s.source step) file).change ≡ change

-- the source told the first change attribute before this moment
record WasFirst (s : System) (k : ℕ) (first : First) : Type 0 where
  step : ℕ
  before : step < k
  boot : (s.server Source step).boot ≡ first.root.boot
  is : (file_at (s.source step) first.file).change ≡ first.change

-- A name that the client knows is that of the job which COPY answered. It was accepted after the first change
-- attribute of its source file was told.
record WasNamed (meaning : Meaning) (s : System) (k n : ℕ) (name : JobName) : Type 0 where
  job : ℕ
  job_of : IsJobOf meaning s k n job
  named : s.name k job ≡ name
  first : First
  first_is : (s.word k n).first ≡ Some first
  file : first.file ≡ (plan_at s k job).src_file
  moment : ℕ
  not_yet : s.made moment ≤ job
  was_first : WasFirst s moment first

-- what the client said to be stable has a name, and the copy of this name was reported before
record WasReported (s : System) (k n : ℕ) : Type 0 where
  name : JobName
  known : (s.word k n).name ≡ Some name
  moment : ℕ
  before : moment < k
  reported : IsReported s moment name

record IsStableJob (meaning : Meaning) (s : System) (k n : ℕ) : Type 0 where
  name : JobName
  was : WasNamed meaning s k n name
  moment : ℕ
  before : moment < k
  stable : (s.job moment was.job).stable ≡ true

abbrev told_later : (w : Wire) (i k : ℕ) (e : End) (call : Call) (results : List ℕ) → i ≤ k → WasTold w i e call results → WasTold w k e call results
told_later w i k e call results le t =
    let early = t.before in
    record {
      sent = t.sent;
      ready = t.ready;
      step = t.step;
      after = t.after;
      before = omega arith;
      boot = t.boot;
      same_boot = t.same_boot;
      executed = t.executed;
    }

first_later : (s : System) (i k : ℕ) (first : First) → i ≤ k → WasFirst s i first → WasFirst s k first
first_later s i k first le w =
    let early = w.before in
    record { step = w.step; before = omega arith; boot = w.boot; is = w.is }

same_first : (a b : First) (o : Option First) → o ≡ Some a → o ≡ Some b → a ≡ b
same_first a b o is is' = let same : Some a ≡ Some b = sym is ∙ is' in cc

not_source : Client ≡ Source → ⊥
not_source e = absurd (cc)

not_dest : Client ≡ Dest → ⊥
not_dest e = absurd (cc)

module _ (spell : Spelling) (meaning : Meaning) (s : System) (lawful : IsLawfulSystem spell meaning s)
    (truthful : IsTruthful spell meaning s) (below : Below) where
  first_stays : (i k n : ℕ) (first : First) → i ≤ k → (s.word i n).first ≡ Some first → (s.word k n).first ≡ Some first
  first_stays i k n first le is =
      from_on (λ m. (s.word m n).first ≡ Some first) i is (λ m after so_far. ((truthful.word m).keeps n).first first so_far) k le

  known_stays : (i k n : ℕ) (name : JobName) → i ≤ k → (s.word i n).name ≡ Some name → (s.word k n).name ≡ Some name
  known_stays i k n name le is =
      from_on (λ m. (s.word m n).name ≡ Some name) i is (λ m after so_far. ((truthful.word m).keeps n).name name so_far) k le

  said_stable_stays : (i k n : ℕ) → i ≤ k → (s.word i n).stable ≡ true → (s.word k n).stable ≡ true
  said_stable_stays i k n le said =
      from_on (λ m. (s.word m n).stable ≡ true) i said (λ m after so_far. ((truthful.word m).keeps n).stable so_far) k le

  said_exact_stays : (i k n : ℕ) → i ≤ k → (s.word i n).exact ≡ true → (s.word k n).exact ≡ true
  said_exact_stays i k n le said =
      from_on (λ m. (s.word m n).exact ≡ true) i said (λ m after so_far. ((truthful.word m).keeps n).exact so_far) k le

  was_change : (k : ℕ) (purpose : Purpose) (a : IsAnswerFor spell s Source Client k purpose) (file change : ℕ)
      → meaning.asks_attributes a.call.ops ≡ Some file → meaning.change_in (spell.results_of a.reply) ≡ Some change
      → WasChange s k purpose a.call.root file change
  was_change k purpose a file change asks says =
      let t = answers_told spell (wire_of s Source) lawful.source_wire k Client a.call a.seal a.reply not_source a.takes in
      record {
        sent = t.sent;
        ready = subst (λ (p : Purpose). (s.caller Source Client (suc t.sent)).ready p ≡ true) a.purpose_is t.ready;
        step = t.step;
        after = t.after;
        before = t.before;
        boot = t.boot;
        is = sym ((lawful.tells t.step a.call.ops (spell.results_of a.reply) t.executed).change file change asks says);
      }

  was_first : (k n : ℕ) (first : First) → (s.word k n).first ≡ Some first → WasFirst s k first
  was_first zero n first is = absurd (let none = truthful.word_start.no_first n in cc)
  was_first (suc k) n first is =
      first_later s k (suc k) first (omega arith) (⊎_elim
      (λ (old : (s.word k n).first ≡ Some first). was_first k n first old)
      (λ (new : IsFirst spell meaning s k n first).
      let c = was_change k (ForFirst n) new.answer first.file first.change new.asks new.says in
      record { step = c.step; before = c.before; boot = c.boot ∙ ap (λ (x : Context). x.boot) new.root; is = c.is })
      ((truthful.word k).first n first is))

  job_later : (i k n j : ℕ) → i ≤ k → IsJobOf meaning s i n j → IsJobOf meaning s k n j
  job_later i k n j le x =
      let there = x.there in
      let rises = made_rises spell meaning s lawful below i k le in
      let plan = plan_stays spell meaning s lawful below j i k le x.there in
      let name = name_stays spell meaning s lawful truthful below j i k le x.there in
      record {
        there = omega arith;
        known = known_stays i k n (s.name i j) le x.known ∙ ap (λ (m : JobName). Some m) (sym name);
        call = x.call;
        purpose = x.purpose;
        results = x.results;
        told = told_later (wire_of s Dest) i k Client x.call x.results le x.told;
        new = x.new;
        accepted = x.accepted;
        asks = x.asks ∙ ap (λ (p : Plan). Some p) (sym plan);
        says = x.says ∙ ap (λ (m : JobName). Some m) (sym name);
      }

  newly_named : (k n : ℕ) (name : JobName) → (s.word (suc k) n).name ≡ Some name → IsNamed spell meaning s k n name
      → WasNamed meaning s (suc k) n name
  newly_named k n name known x =
      let a = x.answer in
      let t = answers_told spell (wire_of s Dest) lawful.dest_wire k Client a.call a.seal a.reply not_dest a.takes in
      let ready = subst (λ (p : Purpose). (s.caller Dest Client (suc t.sent)).ready p ≡ true) a.purpose_is t.ready in
      let first = (truthful.word t.sent).copy_ready n ready in
      let after = t.after in
      let before = t.before in
      let there = first_stays (suc t.sent) k n first.0 (omega arith) first.1 in
      let same = same_first first.0 x.first (s.word k n).first there x.first_is in
      let was = was_first (suc t.sent) n x.first (first.1 ∙ ap (λ (f : First). Some f) same) in
      let acc = ((truthful.names t.step).tells a.call.ops (spell.results_of a.reply) t.executed).copied x.plan name x.asks x.says in
      let accepted = acc.there in
      let rises = made_rises spell meaning s lawful below (suc t.step) (suc k) (omega arith) in
      let plan : plan_at s (suc k) acc.copy ≡ x.plan = plan_stays spell meaning s lawful below acc.copy (suc t.step) (suc k) (omega arith) acc.there ∙ acc.plan_is in
      let named : s.name (suc k) acc.copy ≡ name = name_stays spell meaning s lawful truthful below acc.copy (suc t.step) (suc k) (omega arith) acc.there ∙ acc.named in
      record {
        job = acc.copy;
        job_of = record {
          there = omega arith;
          known = known ∙ ap (λ (m : JobName). Some m) (sym named);
          call = a.call;
          purpose = a.purpose_is;
          results = spell.results_of a.reply;
          told = told_later (wire_of s Dest) k (suc k) Client a.call (spell.results_of a.reply) (omega arith) t;
          new = acc.new;
          accepted = acc.there;
          asks = x.asks ∙ ap (λ (p : Plan). Some p) (sym plan);
          says = x.says ∙ ap (λ (m : JobName). Some m) (sym named);
        };
        named = named;
        first = x.first;
        first_is = first_stays k (suc k) n x.first (omega arith) x.first_is;
        file = x.file ∙ ap (λ (p : Plan). p.src_file) (sym plan);
        moment = t.step;
        not_yet = acc.new;
        was_first = first_later s (suc t.sent) t.step x.first (omega arith) was;
      }

  was_named : (k n : ℕ) (name : JobName) → (s.word k n).name ≡ Some name → WasNamed meaning s k n name
  was_named zero n name known = absurd (let none = truthful.word_start.no_name n in cc)
  was_named (suc k) n name known =
      ⊎_elim
      (λ (old : (s.word k n).name ≡ Some name).
      let w = was_named k n name old in
      let plan = plan_stays spell meaning s lawful below w.job k (suc k) (omega arith) w.job_of.there in
      record {
        job = w.job;
        job_of = job_later k (suc k) n w.job (omega arith) w.job_of;
        named = name_stays spell meaning s lawful truthful below w.job k (suc k) (omega arith) w.job_of.there ∙ w.named;
        first = w.first;
        first_is = first_stays k (suc k) n w.first (omega arith) w.first_is;
        file = w.file ∙ ap (λ (p : Plan). p.src_file) (sym plan);
        moment = w.moment;
        not_yet = w.not_yet;
        was_first = w.was_first;
      })
      (λ (new : IsNamed spell meaning s k n name). newly_named k n name known new)
      ((truthful.word k).name n name known)

  -- each way in which the client comes to know that a copy is stable tells of a copy that is reported
  reported : (k n : ℕ) (name : JobName) → Reports spell meaning s k n name → IsReported s k name
  reported k n name (Calls called) = called_back spell meaning s lawful truthful below k name called
  reported k n name (Holds holds) = held_reported spell meaning s lawful truthful below k name holds
  reported k n name (Completes c) =
      let a = c.answer in
      let t = answers_told spell (wire_of s Dest) lawful.dest_wire k Client a.call a.seal a.reply not_dest a.takes in
      let before = t.before in
      reported_stays spell meaning s lawful truthful below (suc t.step) k name (omega arith) (((truthful.names t.step).tells a.call.ops (spell.results_of a.reply) t.executed).status name c.asks c.says)

  was_reported : (k n : ℕ) → (s.word k n).stable ≡ true → WasReported s k n
  was_reported zero n said = absurd (both_ways _ (truthful.word_start.not_stable n) said)
  was_reported (suc k) n said =
      ⊎_elim
      (λ (old : (s.word k n).stable ≡ true).
      let r = was_reported k n old in
      let early = r.before in
      record {
        name = r.name;
        known = known_stays k (suc k) n r.name (omega arith) r.known;
        moment = r.moment;
        before = omega arith;
        reported = r.reported;
      })
      (λ (new : IsSaidStable spell meaning s k n). record {
        name = new.name;
        known = new.known;
        moment = k;
        before = omega arith;
        reported = reported k n new.name new.reports;
      })
      ((truthful.word k).stable n said)

  stable_job : (k n : ℕ) → (s.word k n).stable ≡ true → IsStableJob meaning s k n
  stable_job k n said =
      let r = was_reported k n said in
      let before = r.before in
      let w = was_named k n r.name r.known in
      let there = r.reported.there in
      let rises = made_rises spell meaning s lawful below r.moment k (omega arith) in
      let named = name_stays spell meaning s lawful truthful below r.reported.copy r.moment k (omega arith) r.reported.there ∙ r.reported.named in
      let same = one_job spell meaning s lawful truthful below k r.reported.copy w.job (omega arith) w.job_of.there (named ∙ sym w.named) in
      record {
        name = r.name;
        was = w;
        moment = r.moment;
        before = r.before;
        stable = subst (λ j. (s.job r.moment j).stable ≡ true) same r.reported.stable;
      }

  -- within an opening a change attribute that is the same at two moments is the same between them
  same_between : (a i b file change : ℕ) → a ≤ i → i ≤ b → (s.server Source a).boot ≡ (s.server Source b).boot
      → (file_at (s.source a) file).change ≡ change → (file_at (s.source b) file).change ≡ change
      → (file_at (s.source i) file).change ≡ change
  same_between a i b file change from to boot first last =
      let run = source_run spell meaning s lawful below in
      let boot_a = truthful.opening a in
      let boot_b = truthful.opening b in
      let low = below.boots_rise s.source s.effect run a i from in
      let high = below.boots_rise s.source s.effect run i b to in
      let rises = below.changes_rise s.source s.effect run a i file from (omega arith) in
      let rises' = below.changes_rise s.source s.effect run i b file to (omega arith) in
      omega arith

  -- a job that isn't there at one moment and is complete at another runs between them
  runs_between : (j i m n : ℕ) → s.made m ≤ j → (s.job n j).stable ≡ true → IsDuring (history s) j i → (m ≤ i) × (i ≤ n)
  runs_between j i m n not_yet stable during = (
    ⊎_elim
        (λ (early : i < m).
        let rises = made_rises spell meaning s lawful below i m (omega arith) in
        let there = during.0 in
        absurd (omega arith))
        (λ (late : m ≤ i). late)
        (cases_lt i m),
    ⊎_elim
        (λ (late : n < i).
        let laws = moment_laws spell meaning s lawful below n in
        absurd (both_ways _ (during.1 n late) (laws.durable j (laws.stable j stable))))
        (λ (in_time : i ≤ n). in_time)
        (cases_lt n i),
  )

  newly_exact : (k n : ℕ) → IsSaidExact spell meaning s k n → IsRightlyExact meaning s (suc k) n
  newly_exact k n x =
      let c = was_change k (ForLast n) x.answer x.first.file x.first.change x.asks x.says in
      let after = c.after in
      let before = c.before in
      let said = (truthful.word c.sent).last_ready n c.ready in
      let r = stable_job (suc c.sent) n said in
      let w = r.was in
      let reported = r.before in
      let there = first_stays (suc c.sent) k n w.first (omega arith) w.first_is in
      let same = same_first x.first w.first (s.word k n).first x.first_is there in
      let first = subst (WasFirst s w.moment) (sym same) w.was_first in
      let early = first.before in
      let plan = plan_stays spell meaning s lawful below w.job (suc c.sent) (suc k) (omega arith) w.job_of.there in
      let file : x.first.file ≡ (plan_at s (suc k) w.job).src_file = ap (λ (f : First). f.file) same ∙ w.file ∙ ap (λ (p : Plan). p.src_file) (sym plan) in
      let boot : (s.server Source first.step).boot ≡ (s.server Source c.step).boot = first.boot ∙ sym (c.boot ∙ ap (λ (o : Context). o.boot) x.same_root) in
      let still : (i : ℕ) → IsDuring (history s) w.job i → (file_at (s.source i) (plan_at s (suc k) w.job).src_file).change ≡ x.first.change = λ i during.
      let range = runs_between w.job i w.moment r.moment w.not_yet r.stable during in
      let low = range.0 in
      let high = range.1 in
      subst (λ f. (file_at (s.source i) f).change ≡ x.first.change) file (same_between first.step i c.step x.first.file x.first.change (omega arith) (omega arith) boot first.is c.is) in
      record {
        job = w.job;
        job_of = job_later (suc c.sent) (suc k) n w.job (omega arith) w.job_of;
        reported = r.moment;
        earlier = omega arith;
        stable = r.stable;
        still = λ i l during during'. still i during ∙ sym (still l during');
      }

  rightly_exact : (k n : ℕ) → (s.word k n).exact ≡ true → IsRightlyExact meaning s k n
  rightly_exact zero n said = absurd (both_ways _ (truthful.word_start.not_exact n) said)
  rightly_exact (suc k) n said =
      ⊎_elim
      (λ (old : (s.word k n).exact ≡ true).
      let r = rightly_exact k n old in
      let early = r.earlier in
      let plan = plan_stays spell meaning s lawful below r.job k (suc k) (omega arith) r.job_of.there in
      record {
        job = r.job;
        job_of = job_later k (suc k) n r.job (omega arith) r.job_of;
        reported = r.reported;
        earlier = omega arith;
        stable = r.stable;
        still = subst (IsStill (history s) r.job) (sym plan) r.still;
      })
      (λ (new : IsSaidExact spell meaning s k n). newly_exact k n new)
      ((truthful.word k).exact n said)

  pub word_kept : IsWordKept meaning s
  word_kept =
      record {
        stable = λ k n said. let r = stable_job k n said in record { job = r.was.job; job_of = r.was.job_of; reported = r.moment; earlier = r.before; stable = r.stable };
        exact = rightly_exact;
        stable_stays = said_stable_stays;
        exact_stays = said_exact_stays;
      }
