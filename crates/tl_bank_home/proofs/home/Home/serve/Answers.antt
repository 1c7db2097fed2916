use Rattle.std.proofs.Common.{◌≡◌, ◌*◌, ◌==◌, if◌then◌else◌, sym, ◌∙◌, ap, subst}
use Rattle.tl_map.specs.Numbers.{Numbers}
use Rattle.tl_map.specs.Places.{block_of_address}
use Rattle.tl_protocol.specs.declared.home.Outward.{Outward}
use Rattle.tl_memory.specs.Blocks.{Contents, block_after, reply_of_memory}
use Rattle.tl_memory.specs.declared.request.Request.{Request}
use Rattle.tl_bank_home.specs.Crossings.{outward_of}
use Rattle.tl_bank_home.specs.Homes.{HomeState, IsHome, arriving, geometry_in, memory_in, outward_in, reply_to, served_outward}
use Rattle.tl_bank_home.proofs.ServeLaws.{address_block, leaves_memory, leaves_outward, replies}
use Rattle.tl_bank_home.proofs.home.Home.serve.Goals as goal

-- the memory's part of what is seen of home
memory-is : (c : goal.After-change) → c.self.inside.memory ≡ c.args.self.now.memory
memory-is c = ap (λ (s : HomeState). s.memory) c.self.view_is

-- the block of the request's address
at : (c : goal.After-change)
    → block_of_address c.args.self.now.memory.geometry (c.args.block * (geometry_in c.args.self.now).block_bytes) ≡ c.args.block
unfolding geometry_in
at c =
    let h = c.args.self.now in
    let home : IsHome h = subst IsHome c.self.view_is c.self.invariant in
    subst (λ (g : Numbers). block_of_address g (c.args.block * h.directory.geometry.block_bytes) ≡ c.args.block) (sym home.geometry)
    (address_block h.directory.geometry c.request-request.ensures.is.0 c.args.block c.request-request.ensures.is.1)

-- the memory's reply
reply-is : (c : goal.After-change)
    → c.serve-reply.result ≡ reply_to c.request-request.ensures.is.0 (memory_in c.args.self.now c.args.block) (outward_in c.args.self.now c.args.block)
unfolding memory_in
reply-is c =
    let h = c.args.self.now in
    let size = c.request-request.ensures.is.0 in
    let address = c.args.block * (geometry_in h).block_bytes in
    c.serve-reply.ensures.reply
    ∙ ap (λ (m : Contents). reply_of_memory m c.request-request.result) (memory-is c)
    ∙ ap (λ (r : Request). reply_of_memory h.memory r) c.request-request.ensures.is.2
    ∙ replies h.memory size address c.args.block (outward_in h c.args.block) (at c)

pub returns-clause-reply : goal.returns-clause-reply
returns-clause-reply c = (c.request-request.ensures.is.0, c.request-request.ensures.is.1, reply-is c)

pub returns-clause-outward : goal.returns-clause-outward
unfolding outward_in
returns-clause-outward c = λ b.
    let h = c.args.self.now in
    let size = c.request-request.ensures.is.0 in
    let left : c.arriving.result ≡ _ =
    c.arriving.ensures ∙ ap arriving (reply-is c) ∙ leaves_outward size (memory_in h c.args.block) (outward_in h c.args.block) c.requires.request in
    c.change.ensures.outward b
    ∙ ap (λ (o : Outward). (if b == c.args.block then o else outward_of b c.self.inside.crossings)) left
    ∙ ap (λ (s : HomeState). (if b == c.args.block then served_outward (memory_in h c.args.block) (outward_in h c.args.block) else outward_of b s.crossings)) c.self.view_is

pub returns-clause-memory : goal.returns-clause-memory
unfolding memory_in
returns-clause-memory c = λ b.
    let h = c.args.self.now in
    let size = c.request-request.ensures.is.0 in
    let address = c.args.block * (geometry_in h).block_bytes in
    c.serve-reply.ensures.blocks b
    ∙ ap (λ (m : Contents). block_after m c.request-request.result b) (memory-is c)
    ∙ ap (λ (r : Request). block_after h.memory r b) c.request-request.ensures.is.2
    ∙ leaves_memory h.memory size address c.args.block (outward_in h c.args.block) (at c) b
