use Rattle.std.proofs.Common.{◌≡◌, List, [], sym, ap, ◌∙◌}
use Rattle.dest_tasks.specs.Posts.{post_at, put_at}
use Rattle.dest_tasks.specs.declared.post.Post.{Post}
use Rattle.dest_tasks.specs.declared.post.Post.TheVariants.{Awaits, Idle}
use Rattle.server_volume.specs.Store.{store_of}
use Rattle.dest_steps.specs.Landing.{doing_of}
use Rattle.dest_steps.specs.Working.{held_landed}
use Rattle.dest_steps.proofs.Doing.{done_as, put_back}
use Rattle.dest_steps.proofs.working.land_held.Goals as goal

pub returns-in-Awaits-clause-does : goal.returns-in-Awaits-clause-does
returns-in-Awaits-clause-does g c = λ told choice agrees.
    let x = c.args.copier.now in
    let posts = x.work.workers in
    let place = c.args.place in
    let s = store_of g.D.Disk.size c.args.volume.now in
    let used = c.args.used.now in
    let post : Post = Awaits c.in-Awaits.job c.in-Awaits.errand in
    let was : post_at posts place ≡ post = sym c.take.ensures.post ∙ c.in-Awaits.is in
    let kept : c.put.new.self ≡ posts =
    c.put.ensures ∙ ap (λ (ps : List Post). put_at place post ps) c.take.ensures.idle
    ∙ ap (λ (p : Post). put_at place p (put_at place Idle posts)) (sym was) ∙ put_back place posts in
    ap (λ (p : Post). held_landed choice place c.args.told p (doing_of x s used)) was
    ∙ done_as x (record x { work = record x.work { workers = c.put.new.self } }) s used [] c.from_vec-in-Awaits.result
    (ap (λ (ps : List Post). record x { work = record x.work { workers = ps } }) kept) (c.from_vec-in-Awaits.ensures ∙ c.requires.room)
