-- A write of one job's log in the slab is a write of it in the list that contracts see.
use Rattle.std.proofs.Common.{false, ◌≡◌, ℕ, arith, length-append, ◌+◌, ◌<◌, Bool, true, List, [], ◌∷◌, ◌++◌, length, get_or, take, Option, Some, None, refl, ap, sym, ◌∙◌, subst, inl, inr}
use Rattle.std.specs.Prelude.{◌≢◌, ◌⊎◌, cond, is_some, All, not, find, filter, option_and_then, IfSome, IfNone, IsSome}
use Rattle.std.specs.List.{cons_option}
use Rattle.std.proofs.lemmas.List.{take_more}
use Rattle.std.proofs.lemmas.List.Elements.{filter_map-append}
use Rattle.std.proofs.lemmas.Bool.{cases_eq}
use Rattle.std.proofs.lemmas.List.Kept.{AllPairs-filter}
use Rattle.std.proofs.lemmas.List.Sums.{sum_by-set}
use Rattle.slab.specs.Slab.{Slab, get, slab_len, ContainsKey, with_value, Updates}
use Rattle.slab.proofs.SlabLemmas.{ContainsKey-within, Updates-with_value}
use Rattle.job_log.specs.declared.chunk.Chunk.{Chunk}
use Rattle.job_log.specs.Log.{JobView, IsNextClaim, HasNoClaim, with_claim}
use Rattle.job_table.specs.declared.job.Job.{Job}
use Rattle.job_table.specs.declared.job.JobId.{JobId}
use Rattle.copy_model.specs.Job.{has_ended}
use Rattle.job_table.specs.Table.{is_live, is_running, JobTable, is_job, job_of, with_log, passes, changed, without, IsTable}
use Rattle.job_table.specs.Stored.{jobs_at, IsStored}
use Rattle.job_table.proofs.KeyRows.{find_key, hit, hit_some, change_key, drop_keys, all_left, length_values, same_values, push_key, push_distinct, push_filled}
use Rattle.job_table.proofs.Lists.{changed_none}
use Rattle.job_table.proofs.Numbers.{one_gone}
use Rattle.job_table.proofs.Tables.{Follows, relogged, table_changed, table_filter}

-- the table that contracts see
abbrev pub seen : ℕ → ℕ → ℕ → Slab Job → List ℕ → JobTable
seen boot capacity made slots keys = record { boot = boot; capacity = capacity; made = made; jobs = jobs_at slots keys }

-- the search for a job by its name, in the slab
abbrev pub search_by : (Job → Bool) → Slab Job → List ℕ → Option ℕ
search_by test slots keys = find (λ key. passes test (get slots key)) keys

-- the key that a search finds has a job
pub has_job : (test : Job → Bool) (slots : Slab Job) (keys : List ℕ) (r : Option ℕ) (key : ℕ) → r ≡ search_by test slots keys → r ≡ Some key → ContainsKey slots key
has_job test slots keys r key searched is = hit_some test (get slots key) (hit (λ k. passes test (get slots k)) keys key (sym searched ∙ is))

-- a job of this name was searched for
pub record Searched (boot : ℕ) (slots : Slab Job) (keys : List ℕ) (id : JobId) (r : Option ℕ) : Type 0 where
  pub is : r ≡ search_by (is_job boot id) slots keys

-- in a row that was lent
pub searched : (boot : ℕ) (slots : Slab Job) (id : JobId) {keys lent : List ℕ} {r : Option ℕ} → r ≡ search_by (is_job boot id) slots lent → lent ≡ keys
    → Searched boot slots keys id r
searched boot slots id is same = record { is = is ∙ ap (λ (ks : List ℕ). search_by (is_job boot id) slots ks) same }

pub has_key : {boot : ℕ} {slots : Slab Job} {keys : List ℕ} {id : JobId} {r : Option ℕ} {key : ℕ} → Searched boot slots keys id r → r ≡ Some key → ContainsKey slots key
has_key {boot = boot} {slots = slots} {keys = keys} {id = id} {r = r} {key = key} search is = has_job (is_job boot id) slots keys r key search.is is

-- what a search finds of the table: the job under the key, and none where there is none
pub found_in : (test : Job → Bool) (slots : Slab Job) (keys : List ℕ) (r : Option ℕ) → r ≡ search_by test slots keys
    → option_and_then (λ key. get slots key) r ≡ find test (jobs_at slots keys)
found_in test slots keys r searched =
    ap (λ (o : Option ℕ). option_and_then (λ key. get slots key) o) searched ∙ sym (find_key test (λ key. get slots key) keys)

pub found_job : (test : Job → Bool) (slots : Slab Job) (keys : List ℕ) (r : Option ℕ) (key : ℕ) (o : Option Job) → r ≡ search_by test slots keys → r ≡ Some key
    → o ≡ get slots key → o ≡ find test (jobs_at slots keys)
found_job test slots keys r key o searched is value =
    value ∙ sym (ap (λ (p : Option ℕ). option_and_then (λ k. get slots k) p) is) ∙ found_in test slots keys r searched

pub found_none : (test : Job → Bool) (slots : Slab Job) (keys : List ℕ) (r : Option ℕ) → r ≡ search_by test slots keys → r ≡ None → None ≡ find test (jobs_at slots keys)
found_none test slots keys r searched is =
    sym (ap (λ (p : Option ℕ). option_and_then (λ k. get slots k) p) is) ∙ found_in test slots keys r searched

-- what holds of the job under the key holds of the one that is found
pub name_found : (test : Job → Bool) (slots : Slab Job) (keys : List ℕ) (r : Option ℕ) (key : ℕ) (P : Job → Type 0) → r ≡ search_by test slots keys → r ≡ Some key
    → IfSome (get slots key) P → IfSome (find test (jobs_at slots keys)) P
name_found test slots keys r key P searched is holds =
    subst (λ (o : Option Job). IfSome o P) (found_job test slots keys r key (get slots key) searched is refl) holds

-- a job by its name, with the key that was searched for, before a write of its log
pub record IsFound (boot capacity made : ℕ) (slots : Slab Job) (keys : List ℕ) (id : JobId) (now : JobTable) (key : ℕ) (x : Job) : Type 0 where
  pub stored : IsStored capacity made slots keys
  pub view : seen boot capacity made slots keys ≡ now
  pub searched : search_by (is_job boot id) slots keys ≡ Some key
  pub value : get slots key ≡ Some x

-- the job under the key that a call found
pub met : {boot capacity made : ℕ} {slots : Slab Job} {keys : List ℕ} {id : JobId} {now : JobTable} {r : Option ℕ} {key : ℕ} {x : Job}
    → IsStored capacity made slots keys → seen boot capacity made slots keys ≡ now → Searched boot slots keys id r → r ≡ Some key → get slots key ≡ Some x
    → IsFound boot capacity made slots keys id now key x
met stored view search is value = record { stored = stored; view = view; searched = sym search.is ∙ is; value = value }

-- the table has it
pub is_there : {boot capacity made : ℕ} {slots : Slab Job} {keys : List ℕ} {id : JobId} {now : JobTable} {key : ℕ} {x : Job}
    → IsFound boot capacity made slots keys id now key x → find (is_job boot id) (jobs_at slots keys) ≡ Some x
is_there {boot = boot} {slots = slots} {keys = keys} {id = id} {key = key} {x = x} f = sym (found_job (is_job boot id) slots keys (Some key) key (Some x) (sym f.searched) refl (sym f.value))

pub is_job_there : {boot capacity made : ℕ} {slots : Slab Job} {keys : List ℕ} {id : JobId} {now : JobTable} {key : ℕ} {x : Job}
    → IsFound boot capacity made slots keys id now key x → job_of now id ≡ Some x
is_job_there {id = id} f =
    ap (λ (t : JobTable). job_of t id) (sym f.view) ∙ is_there f

-- a condition on the job of this name holds of it
pub its : {boot capacity made : ℕ} {slots : Slab Job} {keys : List ℕ} {id : JobId} {now : JobTable} {key : ℕ} {x : Job} (P : Job → Type 0)
    → IsFound boot capacity made slots keys id now key x → IfSome (job_of now id) P → P x
its P f holds =
    subst (λ (o : Option Job). IfSome o P) (is_job_there f) holds

-- so does a test that passes there, and one that fails
passed_if : (p : Job → Bool) (o : Option Job) → passes p o ≡ true → IfSome o (λ x. p x ≡ true)
passed_if p None e = absurd (cc)
passed_if p (Some x) e = e

failed_if : (p : Job → Bool) (o : Option Job) → passes p o ≡ false → IfSome o (λ x. p x ≡ false)
failed_if p None e = tt
failed_if p (Some x) e = e

pub it_passes : {boot capacity made : ℕ} {slots : Slab Job} {keys : List ℕ} {id : JobId} {now : JobTable} {key : ℕ} {x : Job} (p : Job → Bool)
    → IsFound boot capacity made slots keys id now key x → passes p (job_of now id) ≡ true → p x ≡ true
it_passes p f holds = its (λ x. p x ≡ true) f (passed_if p _ holds)

pub it_fails : {boot capacity made : ℕ} {slots : Slab Job} {keys : List ℕ} {id : JobId} {now : JobTable} {key : ℕ} {x : Job} (p : Job → Bool)
    → IsFound boot capacity made slots keys id now key x → passes p (job_of now id) ≡ false → p x ≡ false
it_fails p f holds = its (λ x. p x ≡ false) f (failed_if p _ holds)

not_ended : (b : Bool) → not b ≡ true → b ≡ false
not_ended true e = sym e
not_ended false e = refl

pub it_runs : {boot capacity made : ℕ} {slots : Slab Job} {keys : List ℕ} {id : JobId} {now : JobTable} {key : ℕ} {x : Job}
    → IsFound boot capacity made slots keys id now key x → is_running now id ≡ true → has_ended x.log.entries ≡ false
it_runs f holds = not_ended _ (it_passes is_live f holds)

-- the jobs after a write of its log
pub written : {boot capacity made : ℕ} {slots : Slab Job} {keys : List ℕ} {id : JobId} {now : JobTable} {key : ℕ} {x : Job} (log : JobView) (g : JobView → JobView)
    → IsFound boot capacity made slots keys id now key x → log ≡ g x.log
    → jobs_at (with_value slots key (relogged x log)) keys ≡ changed (is_job boot id) (λ job. relogged job (g job.log)) (jobs_at slots keys)
written {boot = boot} {slots = slots} {keys = keys} {id = id} {key = key} {x = x} log g f made_of =
    let p : Job → Bool = is_job boot id in
    let passed : passes p (get slots key) ≡ true = hit (λ k. passes p (get slots k)) keys key f.searched in
    let one : passes p (get slots key) ≡ p x = ap (λ (o : Option Job). passes p o) f.value in
    let u = Updates-with_value slots key (relogged x log) (hit_some p (get slots key) passed) in
    change_key p (λ job. relogged job (g job.log)) (λ k. get slots k) (λ k. get (with_value slots key (relogged x log)) k) keys key x
    f.searched f.value (sym one ∙ passed) (u.changed ∙ ap (λ (l : JobView). Some (relogged x l)) made_of) u.others f.stored.distinct

counts_one : (o : Option Job) → IsSome o → cond {A = ℕ} (is_some o) 1 0 ≡ 1
counts_one None has = absurd (cc)
counts_one (Some x) has = refl

-- a write of a value where one was leaves their number
count_rewritten : (slots : Slab Job) (key : ℕ) (v : Job) → ContainsKey slots key → slab_len (with_value slots key v) ≡ slab_len slots
count_rewritten slots key v has =
    let f : Option Job → ℕ = λ o. cond {A = ℕ} (is_some o) 1 0 in
    let e = sum_by-set f slots.slots key (Some v) None (ContainsKey-within slots key has) in
    let one = counts_one (get slots key) has in
    omega (arith, e, one)

-- what holds of the table still does
pub stored_write : {boot capacity made : ℕ} {slots : Slab Job} {keys : List ℕ} {id : JobId} {now : JobTable} {key : ℕ} {x : Job} (log : JobView)
    → IsFound boot capacity made slots keys id now key x → Follows capacity x log → IsStored capacity made (with_value slots key (relogged x log)) keys
stored_write {boot = boot} {capacity = capacity} {made = made} {slots = slots} {keys = keys} {id = id} {key = key} {x = x} log f follows =
    let there = is_there f in
    let same = written log (λ l. log) f refl in
    let has : ContainsKey slots key = subst (λ (o : Option Job). IsSome o) (sym f.value) refl in
    let u = Updates-with_value slots key (relogged x log) has in
    record {
      table = rw same (table_changed capacity made (jobs_at slots keys) (is_job boot id) x log f.stored.table there follows);
      distinct = f.stored.distinct;
      filled = λ i d lt. still_there slots (with_value slots key (relogged x log)) key _ (relogged x log) u (f.stored.filled i d lt);
      no_other = count_rewritten slots key (relogged x log) has ∙ f.stored.no_other;
      room = f.stored.room;
    }
  where
    at_key : (old new : Slab Job) (key k : ℕ) (y : Job) → Updates old new key (Some y) → ContainsKey old k → (k ≡ key) ⊎ (k ≢ key) → ContainsKey new k
    at_key old new key k y u has (inl same) = subst (λ (o : Option Job). IsSome o) (sym (ap (λ (m : ℕ). get new m) same ∙ u.changed)) refl
    at_key old new key k y u has (inr other) = subst (λ (o : Option Job). IsSome o) (sym (u.others k other)) has

    still_there : (old new : Slab Job) (key k : ℕ) (y : Job) → Updates old new key (Some y) → ContainsKey old k → ContainsKey new k
    still_there old new key k y u has = at_key old new key k y u has (cases_eq k key)

-- and contracts see the job's new log
pub seen_write : {boot capacity made : ℕ} {slots : Slab Job} {keys : List ℕ} {id : JobId} {now : JobTable} {key : ℕ} {x : Job} (log : JobView) (g : JobView → JobView)
    → IsFound boot capacity made slots keys id now key x → log ≡ g x.log → seen boot capacity made (with_value slots key (relogged x log)) keys ≡ with_log now id g
seen_write {boot = boot} {capacity = capacity} {made = made} {id = id} log g f made_of =
    ap (λ (js : List Job). record { boot = boot; capacity = capacity; made = made; jobs = js }) (written log g f made_of)
    ∙ ap (λ (t : JobTable). with_log t id g) f.view

-- where the table has no such job nothing changes
pub seen_left : {boot capacity made : ℕ} {slots : Slab Job} {keys : List ℕ} {id : JobId} {now : JobTable} {r : Option ℕ} (g : JobView → JobView)
    → seen boot capacity made slots keys ≡ now → Searched boot slots keys id r → r ≡ None → now ≡ with_log now id g
seen_left {boot = boot} {capacity = capacity} {made = made} {slots = slots} {keys = keys} {id = id} {r = r} g view search is =
    let none = found_none (is_job boot id) slots keys r search.is is in
    let same = changed_none (is_job boot id) (λ job. relogged job (g job.log)) (jobs_at slots keys) (sym none) in
    sym view ∙ ap (λ (js : List Job). record { boot = boot; capacity = capacity; made = made; jobs = js }) (sym same)
    ∙ ap (λ (t : JobTable). with_log t id g) view

-- ---- a job less

-- a search of the table that finds a key finds its job
job_found : (boot : ℕ) (slots : Slab Job) (keys : List ℕ) (id : JobId) (key : ℕ) → search_by (is_job boot id) slots keys ≡ Some key
    → find (is_job boot id) (jobs_at slots keys) ≡ get slots key
job_found boot slots keys id key searched = sym (found_job (is_job boot id) slots keys (Some key) key (get slots key) (sym searched) refl refl)

left_alone : (test : Job → Bool) (old new : Slab Job) (key k : ℕ) → Updates old new key None → passes test (get old key) ≡ true → not (passes test (get old k)) ≡ true → get new k ≡ get old k
left_alone test old new key k u passed fails =
    u.others k (λ same. (let a : not (passes test (get old k)) ≡ not true = ap (λ (m : ℕ). not (passes test (get old m))) same ∙ ap (λ (b : Bool). not b) passed in cc))

jobs_less : (boot : ℕ) (slots now : Slab Job) (keys : List ℕ) (id : JobId) (key : ℕ) → search_by (is_job boot id) slots keys ≡ Some key → Updates slots now key None
    → jobs_at now (filter (λ k. not (passes (is_job boot id) (get slots k))) keys) ≡ filter (λ job. not (is_job boot id job)) (jobs_at slots keys)
jobs_less boot slots now keys id key searched u =
    let p : Job → Bool = is_job boot id in
    let passed = hit (λ k. passes p (get slots k)) keys key searched in
    same_values (λ k. get slots k) (λ k. get now k) (filter (λ k. not (passes p (get slots k))) keys)
    (all_left (λ k. Unit {0}) (λ k. get now k ≡ get slots k) (λ k. not (passes p (get slots k))) keys (λ k fails _. left_alone p slots now key k u passed fails) (λ i d lt. tt))
    ∙ drop_keys p (λ k. get slots k) keys

pub stored_less : (boot capacity made : ℕ) (slots now : Slab Job) (keys : List ℕ) (id : JobId) (key : ℕ) → IsStored capacity made slots keys
    → search_by (is_job boot id) slots keys ≡ Some key → Updates slots now key None → slab_len now + 1 ≡ slab_len slots → now.capacity ≡ slots.capacity
    → IsStored capacity made now (filter (λ k. not (passes (is_job boot id) (get slots k))) keys)
stored_less boot capacity made slots now keys id key stored searched u len room =
    let p : Job → Bool = is_job boot id in
    let passed = hit (λ k. passes p (get slots k)) keys key searched in
    let left : List ℕ = filter (λ k. not (passes p (get slots k))) keys in
    let still : All (λ k. ContainsKey now k) left =
    all_left (λ k. ContainsKey slots k) (λ k. ContainsKey now k) (λ k. not (passes p (get slots k))) keys
    (λ k fails has. subst (λ (o : Option Job). IsSome o) (sym (left_alone p slots now key k u passed fails)) has) stored.filled in
    let values : length (jobs_at slots keys) ≡ length keys = length_values (λ k. get slots k) keys stored.filled in
    let fewer : length (jobs_at now left) ≡ length left = length_values (λ k. get now k) left still in
    let same : length (jobs_at now left) ≡ length (filter (λ job. not (p job)) (jobs_at slots keys)) = ap (λ (js : List Job). length js) (jobs_less boot slots now keys id key searched u) in
    let gone = one_gone boot id (jobs_at slots keys) (subst (λ (o : Option Job). IsSome o) (sym (job_found boot slots keys id key searched)) (hit_some p (get slots key) passed)) stored.table.rising in
    let was = stored.no_other in
    let enough = stored.room in
    record {
      table = rw (jobs_less boot slots now keys id key searched u) (table_filter capacity made (jobs_at slots keys) (λ job. not (p job)) stored.table);
      distinct = AllPairs-filter (λ (a b : ℕ). a ≢ b) (λ k. not (passes p (get slots k))) keys stored.distinct;
      filled = still;
      no_other = omega arith;
      room = omega arith;
    }

-- contracts see the table without the job
pub seen_less : (boot capacity made : ℕ) (slots now : Slab Job) (keys : List ℕ) (id : JobId) (key : ℕ) (t : JobTable) → seen boot capacity made slots keys ≡ t
    → search_by (is_job boot id) slots keys ≡ Some key → Updates slots now key None
    → seen boot capacity made now (filter (λ k. not (passes (is_job boot id) (get slots k))) keys) ≡ without t id
seen_less boot capacity made slots now keys id key t view searched u =
    ap (λ (js : List Job). record { boot = boot; capacity = capacity; made = made; jobs = js }) (jobs_less boot slots now keys id key searched u)
    ∙ ap (λ (w : JobTable). without w id) view

-- ---- a job more

pub stored_more : (capacity made : ℕ) (slots now : Slab Job) (keys : List ℕ) (key : ℕ) (y : Job) → IsStored capacity made slots keys
    → get slots key ≡ None → Updates slots now key (Some y) → slab_len now ≡ slab_len slots + 1 → now.capacity ≡ slots.capacity
    → IsTable capacity (made + 1) (jobs_at slots keys ++ y ∷ []) → IsStored capacity (made + 1) now (keys ++ key ∷ [])
stored_more capacity made slots now keys key y stored none u len room table =
    let g : ℕ → Option Job = λ k. get slots k in
    let h : ℕ → Option Job = λ k. get now k in
    let n = length-append keys (key ∷ []) in
    let was = stored.no_other in
    let enough = stored.room in
    record {
      table = rw (push_key g h keys key y stored.filled none u.changed u.others) table;
      distinct = push_distinct g keys key stored.filled none stored.distinct;
      filled = push_filled g h keys key y stored.filled none u.changed u.others;
      no_other = omega arith;
      room = omega arith;
    }

pub jobs_more : (capacity made : ℕ) (slots now : Slab Job) (keys : List ℕ) (key : ℕ) (y : Job) → IsStored capacity made slots keys
    → get slots key ≡ None → Updates slots now key (Some y) → jobs_at now (keys ++ key ∷ []) ≡ jobs_at slots keys ++ y ∷ []
jobs_more capacity made slots now keys key y stored none u = push_key (λ k. get slots k) (λ k. get now k) keys key y stored.filled none u.changed u.others

-- ---- claims

pub next_of : (now : JobTable) (id : JobId) (x : Job) (r : Option Chunk) → job_of now id ≡ Some x → IfSome r (λ chunk. IsNextClaim x.log chunk)
    → IfSome r (λ chunk. IfSome (job_of now id) (λ found. IsNextClaim found.log chunk) × IsSome (job_of now id))
next_of now id x None is next = tt
next_of now id x (Some chunk) is next =
    let P : Option Job → Type 0 = λ p. IfSome p (λ found. IsNextClaim found.log chunk) × IsSome p in
    let here : P (Some x) = (next, refl) in
    subst P (sym is) here

pub none_of : (now : JobTable) (id : JobId) (x : Job) (r : Option Chunk) → job_of now id ≡ Some x → IfNone r (HasNoClaim x.log)
    → IfNone r (IfSome (job_of now id) (λ found. HasNoClaim found.log))
none_of now id x None is none = subst (λ (p : Option Job). IfSome p (λ found. HasNoClaim found.log)) (sym is) none
none_of now id x (Some chunk) is none = tt

pub claimed_of : {boot capacity made : ℕ} {slots : Slab Job} {keys : List ℕ} {id : JobId} {now : JobTable} {key : ℕ} {x : Job} (r : Option Chunk) (log : JobView)
    → IsFound boot capacity made slots keys id now key x → IfSome r (λ chunk. log ≡ with_claim x.log chunk true)
    → IfSome r (λ chunk. seen boot capacity made (with_value slots key (relogged x log)) keys ≡ with_log now id (λ l. with_claim l chunk true))
claimed_of None log f made_of = tt
claimed_of (Some chunk) log f made_of = seen_write log (λ l. with_claim l chunk true) f made_of

-- ---- one key after the other

pub jobs_taken : (slots : Slab Job) (keys : List ℕ) (i : ℕ) (x : Job) → i < length keys → get slots (get_or keys i 0) ≡ Some x
    → jobs_at slots (take (i + 1) keys) ≡ jobs_at slots (take i keys) ++ x ∷ []
jobs_taken slots keys i x lt is =
    ap (λ (ks : List ℕ). jobs_at slots ks) (take_more keys i 0 lt)
    ∙ filter_map-append (λ key. get slots key) (take i keys) (get_or keys i 0 ∷ [])
    ∙ ap (λ (o : Option Job). jobs_at slots (take i keys) ++ cons_option o []) is
