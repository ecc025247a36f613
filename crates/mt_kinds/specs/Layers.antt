-- The layers at which an element takes packets (Click manual, in this project's profile): one line for each class.
use Rattle.std.specs.Prelude.{ℕ, ◌==◌, Bool, true, false, if◌then◌else◌}
use Rattle.mt_packet.specs.Packet.{has_ethernet}
use Rattle.mt_packet.specs.declared.layer.Layer.{Layer}
use Rattle.mt_packet.specs.declared.layer.Layer.TheVariants.{Frame, Bare, Ip, Framed}
use Rattle.mt_kinds.specs.declared.kind.Kind.{Kind}
use Rattle.mt_kinds.specs.declared.kind.Kind.TheVariants.{FromDevice, ToDevice, Classifier, Discard, Null, Counter, Queue, Paint, PaintSwitch, EtherMirror, Strip, CheckIPHeader, EtherEncap, DecIPTTL, SetIPDSCP, StoreIPAddress, GetIPAddress, IPMirror, IPFilter, IPClassifier, Route, IPRewriter, RoundRobinIPMapper}

-- ---- layers

-- an Ethernet frame, nothing checked
abbrev pub is_frame : Layer → Bool
is_frame Frame = true
is_frame Bare = false
is_frame Ip = false
is_frame Framed = false

-- without an Ethernet header
abbrev pub is_bare : Layer → Bool
is_bare Frame = false
is_bare Bare = true
is_bare Ip = true
is_bare Framed = false

-- checked, and without an Ethernet header
abbrev pub is_ip : Layer → Bool
is_ip Frame = false
is_ip Bare = false
is_ip Ip = true
is_ip Framed = false

-- whether an element takes packets at a layer; those of a device enter its FromDevice as frames, and none comes to a mapper
abbrev pub takes : Kind → Layer → Bool
takes (FromDevice device) layer = is_frame layer
takes (ToDevice device) layer = has_ethernet layer
takes Discard layer = true
takes Null layer = true
takes Counter layer = true
takes Queue layer = true
takes (Paint paint) layer = true
takes PaintSwitch layer = true
takes (Classifier patterns) layer = has_ethernet layer
takes EtherMirror layer = has_ethernet layer
takes Strip layer = has_ethernet layer
takes CheckIPHeader layer = is_bare layer
takes (EtherEncap ether_type src dst) layer = is_ip layer
takes DecIPTTL layer = is_ip layer
takes (SetIPDSCP point) layer = is_ip layer
takes (StoreIPAddress address which) layer = is_ip layer
takes GetIPAddress layer = is_ip layer
takes IPMirror layer = is_ip layer
takes (IPFilter rules) layer = is_ip layer
takes (IPClassifier patterns) layer = is_ip layer
takes (Route hops) layer = is_ip layer
takes (IPRewriter specs) layer = is_ip layer
takes (RoundRobinIPMapper templates) layer = false

-- a layer without its Ethernet header: what was checked stays so
abbrev pub without_header : Layer → Layer
without_header Frame = Bare
without_header Bare = Bare
without_header Ip = Ip
without_header Framed = Ip

-- the layer at which packets leave an element, that came to it at a layer, by one of its outputs
abbrev pub layer_behind : Kind → Layer → ℕ → Layer
layer_behind Strip layer out = without_header layer
layer_behind CheckIPHeader layer out = if out == 0 then Ip else Bare
layer_behind (EtherEncap ether_type src dst) layer out = Framed
layer_behind kind layer out = layer
