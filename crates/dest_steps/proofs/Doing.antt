-- What is done in a step, beside its model: the copies, the volume, the calls on it, and what goes out.
use Rattle.std.proofs.Common.{◌≡◌, ℕ, List, refl, sym, ap, ◌∙◌, set-set}
use Rattle.std.proofs.lemmas.List.{set-get_or}
use Rattle.block_file.specs.Opened.{SameOpening}
use Rattle.copy_model.specs.Volume.{Volume}
use Rattle.dest_tasks.specs.Posts.{post_at, put_at}
use Rattle.dest_tasks.specs.declared.post.Post.{Post}
use Rattle.dest_tasks.specs.declared.post.Post.TheVariants.{Idle}
use Rattle.outbox.specs.declared.outgoing.Outgoing.{Outgoing}
use Rattle.server_volume.specs.Choices.{Grows}
use Rattle.server_volume.specs.Store.{Store}
use Rattle.server_volume.specs.declared.used.Used.{Used}
use Rattle.dest_steps.specs.Landing.{Done, doing_of}
use Rattle.dest_steps.specs.declared.copier.Copier.{Copier}

abbrev pub done_of : Copier → Store → List Used → List Outgoing → Done
done_of x s used sent = record { doing = doing_of x s used; sent = sent }

-- the same copies, and the same goes out
pub done_as : (x y : Copier) (s : Store) (used : List Used) (sent told : List Outgoing) → y ≡ x → told ≡ sent → done_of x s used sent ≡ done_of y s used told
done_as x y s used sent told same is =
    ap (λ (z : Copier). done_of z s used sent) (sym same) ∙ ap (λ (os : List Outgoing). done_of y s used os) (sym is)

pub grows_none : (used : List Used) → Grows used used
grows_none used = λ choice agrees. agrees

pub same_opening : (v : Volume) → SameOpening v v
same_opening v = record { files = refl; capacity = refl; boot = refl }

-- a worker that is at the same again
pub put_back : (place : ℕ) (posts : List Post) → put_at place (post_at posts place) (put_at place Idle posts) ≡ posts
put_back place posts = set-set posts place Idle (post_at posts place) ∙ set-get_or posts place Idle
