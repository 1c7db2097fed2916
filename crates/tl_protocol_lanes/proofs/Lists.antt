-- A change of one client's lists, seen from every client and channel.
use Rattle.std.proofs.Common.{◌≡◌, ◌≢◌, ℕ, ◌&&◌, Bool, false, List, [], ◌∷◌, ◌++◌, drop, Option, Some, None, if◌then◌else◌, refl, sym, ap, ◌∙◌, subst, eq-eqb}
use Rattle.std.proofs.lemmas.Bool.{ne_eqb}
use Rattle.tl_types.specs.Channel.{same_channel}
use Rattle.tl_types.specs.Lane.{is_here}
use Rattle.tl_types.specs.declared.channel.Channel.{Channel}
use Rattle.tl_types.specs.declared.message.Body.{Body}
use Rattle.tl_protocol.specs.declared.client.Client.{Client}
use Rattle.tl_protocol.proofs.Blocks.{put, at_put}
use Rattle.tl_protocol_lanes.specs.Lanes.{Post, LinkChannel}
use Rattle.tl_protocol_lanes.specs.Lists.{list_in, shed, added}

-- ## Elsewhere

-- another client is not here
not_here : (c : ℕ) (channel : Channel) (x : ℕ) (l : Channel) → x ≢ c → is_here c channel x l ≡ false
not_here c channel x l n = ap (λ (t : Bool). t && same_channel l channel) (ne_eqb x c n)

-- what is taken is of this client
abbrev pub TakeIsOf : ℕ → Option LinkChannel → Type 0
TakeIsOf c None = Unit {0}
TakeIsOf c (Some place) = place.client ≡ c

-- what is sent is of this client
abbrev pub PostIsOf : ℕ → Option Post → Type 0
PostIsOf c None = Unit {0}
PostIsOf c (Some post) = post.client ≡ c

-- nothing is taken from another client's list
pub shed_elsewhere :
    (take : Option LinkChannel) (c x : ℕ) (l : Channel) (bodies : List Body) → x ≢ c → TakeIsOf c take → shed take x l bodies ≡ bodies
shed_elsewhere None c x l bodies n of = refl
shed_elsewhere (Some place) c x l bodies n of =
    ap (λ (t : Bool). if t then drop 1 bodies else bodies) (not_here place.client place.channel x l (λ e. n (e ∙ of)))

-- nothing is sent to another client's list
pub added_elsewhere :
    (post : Option Post) (c x : ℕ) (l : Channel) (bodies : List Body) → x ≢ c → PostIsOf c post → added post x l bodies ≡ bodies
added_elsewhere None c x l bodies n of = refl
added_elsewhere (Some post) c x l bodies n of =
    ap (λ (t : Bool). if t then bodies ++ post.body ∷ [] else bodies) (not_here post.client post.channel x l (λ e. n (e ∙ of)))

-- ## Here

-- what this client's list is after something is taken from the channel
abbrev pub shed_here : Channel → Channel → List Body → List Body
shed_here channel l bodies = if same_channel l channel then drop 1 bodies else bodies

-- and after something is sent on the channel
abbrev pub added_here : Channel → Body → Channel → List Body → List Body
added_here channel body l bodies = if same_channel l channel then bodies ++ body ∷ [] else bodies

-- this client is here
pub here : (c : ℕ) (channel l : Channel) → is_here c channel c l ≡ same_channel l channel
here c channel l = ap (λ (t : Bool). t && same_channel l channel) (eq-eqb c c refl)

-- what is taken here
pub shed_is :
    (c : ℕ) (channel l : Channel) (bodies : List Body)
    → shed (Some (record { client = c; channel = channel })) c l bodies ≡ shed_here channel l bodies
shed_is c channel l bodies = ap (λ (t : Bool). if t then drop 1 bodies else bodies) (here c channel l)

-- what is sent here
pub added_is :
    (c : ℕ) (channel : Channel) (body : Body) (l : Channel) (bodies : List Body)
    → added (Some (record { client = c; channel = channel; body = body })) c l bodies ≡ added_here channel body l bodies
added_is c channel body l bodies = ap (λ (t : Bool). if t then bodies ++ body ∷ [] else bodies) (here c channel l)

-- ## Both

-- where one client's lists move by what is taken and sent, all lists do
pub follow_put :
    (client : ℕ → Client) (c : ℕ) (k : Client) (take : Option LinkChannel) (post : Option Post) → TakeIsOf c take → PostIsOf c post
    → ((l : Channel) → list_in k l ≡ added post c l (shed take c l (list_in (client c) l)))
    → (x : ℕ) (l : Channel) → list_in (put client c k x) l ≡ added post x l (shed take x l (list_in (client x) l))
follow_put client c k take post take_of post_of moves x l =
    at_put (λ m. list_in m l ≡ added post x l (shed take x l (list_in (client x) l))) client c k x
    (λ e. subst (λ (y : ℕ). list_in k l ≡ added post y l (shed take y l (list_in (client y) l))) (sym e) (moves l))
    (λ n. sym (added_elsewhere post c x l (shed take x l (list_in (client x) l)) n post_of
    ∙ shed_elsewhere take c x l (list_in (client x) l) n take_of))
